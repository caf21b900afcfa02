-- What the items of a hub's store keep, where its rows stand, and what is told of them.
pub mod Keeping
pub mod Rows
pub mod Telling
