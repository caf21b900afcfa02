pub mod Bodies
pub mod Format
pub mod Areas
pub mod Edits
pub mod Roots
