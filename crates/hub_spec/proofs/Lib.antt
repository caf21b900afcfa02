pub mod AskedQueries
pub mod Below
pub mod ArrangedLemmas
pub mod ListLemmas
pub mod PageLemmas
pub mod Sorting
pub mod OnceLemmas
pub mod HasAnswers
pub mod CutDeltas
pub mod Cutting
pub mod DeltaRequestLemmas
mod DeltaSaying
pub mod Following
pub mod GrantKeeping
pub mod Growing
pub mod Holding
pub mod Isolating
pub mod Judging
pub mod Keeping
pub mod Once
pub mod Publishing
pub mod Saying
pub mod Versions
pub mod Withholding
pub mod PageRequestLemmas
pub mod QueryLemmas
pub mod AgreeLemmas
pub mod AloneLemmas
pub mod AnswerLemmas
pub mod JudgeLemmas
pub mod PathLemmas
pub mod SendLemmas
pub mod ShowLemmas
mod Paging
mod Seeing
mod Writing
