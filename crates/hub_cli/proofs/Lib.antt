pub mod Answering
pub mod Below
mod Ending
pub mod Wanting
