pub mod Below
pub mod Acting
pub mod Makings
pub mod Plays
pub mod Rehearsals
pub mod Runs
pub mod Sayings
