pub mod sets
pub mod grants
pub mod sound
