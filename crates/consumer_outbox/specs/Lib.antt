pub mod Entered
pub mod Sends
pub mod Verdicts
