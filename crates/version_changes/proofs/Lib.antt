mod Answering
mod Bare
mod Collecting
pub mod CountLemmas
mod IndexLemmas
mod ListedLemmas
mod LookUps
mod MarkLemmas
mod RefusalLemmas
mod SoundLemmas
pub mod Deciding
pub mod SetOutcome
pub mod Finding
pub mod Following
pub mod Granted
pub mod GrantsOutcome
pub mod AdjacentLemmas
pub mod ChangeLemmas
pub mod SoundCounts
pub mod GrantLemmas
pub mod KeepingLemmas
pub mod Outcomes
pub mod SoundMarks
pub mod OrderLemmas
pub mod VersionLemmas
