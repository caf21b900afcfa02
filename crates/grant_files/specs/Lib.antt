pub mod Grants
pub mod Known
pub mod Schools
