pub mod Ending
pub mod Joining
pub mod Standing
pub mod Wholes
