pub mod Answers
pub mod Cascading
pub mod Held
pub mod Steps
