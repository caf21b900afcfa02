-- Lemmas of crates below this one that crates above cite, which then needn't list those.
pub use Rattle.consumer_deltas.proofs.DeltaDoneLemmas
pub use Rattle.consumer_deltas.proofs.DeltaStopLemmas
