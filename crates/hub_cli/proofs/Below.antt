-- Lemmas of crates below this one that crates above cite, which then needn't list those.
pub use Rattle.script_runs.proofs.Below.Telling
