pub mod Faults
pub mod Moments
pub mod Order
pub mod Reading
