pub mod CellTexts
pub mod Deltas
pub mod Json
pub mod Puts
pub mod Reading
pub mod Tokens
