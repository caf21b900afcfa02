-- What the items of a copy's store keep.
pub mod Keeping
