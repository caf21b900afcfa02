pub mod Items
pub mod Edits
