pub mod Below
pub mod views
pub mod rules
pub mod requests
pub mod marks
pub mod examples
