pub mod Feeding
pub mod Reloads
pub mod Seats
pub mod Serving
pub mod Standings
