pub mod Covering
pub mod Listing
pub mod Optional
pub mod Resting
pub mod Turning
pub mod Walking
