pub mod Calls
pub mod Chains
pub mod Orders
pub mod Reading
pub mod Stands
