pub mod Entries
pub mod Infos
pub mod Opens
pub mod Schools
pub mod Scopes
pub mod Words
