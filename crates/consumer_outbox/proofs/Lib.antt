pub mod AllLemmas
pub mod CallLemmas
pub mod OwnLemmas
pub mod RequestLemmas
pub mod StepLemmas
pub mod TriedLemmas
pub mod VerdictLemmas
pub mod WalkLemmas
