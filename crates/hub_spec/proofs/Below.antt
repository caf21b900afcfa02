-- Lemmas of crates below this one that crates above cite, which then needn't list those.
pub use Rattle.version_changes.proofs.Finding.{all_each, all_two, found_passes, same_text}
pub use Rattle.reference_rules.proofs.KeyOrder.{and_first, and_second, ids_less, less_from_is_lt}
