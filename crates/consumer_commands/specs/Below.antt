-- What crates above cite of the crates below this one, which they then needn't list.
pub use Rattle.consumer_deltas.specs.declared.answer.DeltaAnswer
pub use Rattle.consumer_deltas.specs.DeltaAnswers
pub use Rattle.consumer_deltas.specs.DeltaCauses
pub use Rattle.consumer_deltas.specs.DeltaFilling
pub use Rattle.consumer_deltas.specs.DeltaGathering
pub use Rattle.consumer_deltas.specs.declared.judging.Place
