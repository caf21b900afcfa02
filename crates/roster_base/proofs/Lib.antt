pub mod Firsts
pub mod Kept
pub mod ListSteps
pub mod Rising
pub mod Sorting
