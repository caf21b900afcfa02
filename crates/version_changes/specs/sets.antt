-- What a set makes of the newest version.
pub mod Applying
pub mod Steps
