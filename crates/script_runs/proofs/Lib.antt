pub mod Below
mod Consuming
pub mod Making
mod Refusals
pub mod Rehearsing
mod Walking
pub mod Sounding
