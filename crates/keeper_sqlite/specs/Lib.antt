pub mod hub
pub mod copy
pub mod Trust
pub mod Rest
pub mod Stored
