pub mod Areas
pub mod Pieces
pub mod Format
pub mod Edits
pub mod Behind
pub mod Moves
