pub mod Changes
pub mod Exports
pub mod Folders
pub mod Steps
