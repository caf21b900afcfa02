-- What becomes of a write, what a request is answered by its checks in order, what a run of the hub is, and what a
-- state keeps.
pub mod Answers
pub mod Asking
pub mod Checks
pub mod DeltaAsking
pub mod Growth
pub mod Marked
pub mod Reads
pub mod Refusals
pub mod Runs
pub mod States
pub mod Verdicts
pub mod Views
pub mod Wanted
pub mod Written
