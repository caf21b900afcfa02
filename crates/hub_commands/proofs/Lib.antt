pub mod Below
pub mod Asking
pub mod Cascading
mod Entering
mod Exporting
pub mod Following
pub mod Granting
pub mod Leading
pub mod Publishing
mod Showing
pub mod Telling
