pub mod Deltas
pub mod Sameness
