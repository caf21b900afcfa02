pub mod Format
pub mod Edits
pub mod Reading
pub mod Oldest
