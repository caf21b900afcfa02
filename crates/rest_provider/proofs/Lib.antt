pub mod Doing
pub mod ReadLemmas
pub mod StepLemmas
pub mod WriteLemmas
mod Dating
pub mod EndsProgress
pub mod Progressing
pub mod Running
