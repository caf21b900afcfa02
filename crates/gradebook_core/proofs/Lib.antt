pub mod Verdicts
pub mod Within
pub mod WriteSteps
