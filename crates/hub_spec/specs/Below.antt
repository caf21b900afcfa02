-- What crates above cite of the crates below this one, which they then needn't list.
pub use Rattle.version_changes.specs.sets.Applying.{is_active, marked}
pub use Rattle.row_deltas.specs.Deltas
pub use Rattle.row_deltas.specs.declared.entry.DeltaEntry
