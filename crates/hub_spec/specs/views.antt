-- What a caller sees: rows, the cut of a version to a grant, the lists of paths, pages and their links.
pub mod Cuts
pub mod Deltas
pub mod Links
pub mod Lists
pub mod Pages
pub mod References
pub mod Rules
pub mod SameKeys
pub mod Seen
