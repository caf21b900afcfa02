pub mod Below
pub mod Runs
pub mod Serves
