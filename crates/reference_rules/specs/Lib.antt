pub mod Faults
pub mod Notes
pub mod Parents
pub mod Walks
