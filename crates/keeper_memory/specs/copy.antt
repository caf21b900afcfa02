-- What a consumer's copy is, what its changes make of it, and how tables stand for it.
pub mod Changes
pub mod Copies
pub mod HeldCopy
pub mod Lists
pub mod States
pub mod Tables
