pub mod AtLemmas
pub mod DeltaLemmas
pub mod EntryLemmas
pub mod MergeLemmas
pub mod SameLemmas
pub mod StepLemmas
