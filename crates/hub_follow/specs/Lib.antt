pub mod Catching
pub mod Causes
pub mod Ends
