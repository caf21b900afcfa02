use Rattle.std.proofs.Common.{◌≡◌, bytes_eq, drop}
use Rattle.std.specs.Prelude.{find}
use Rattle.filter_grammar.specs.rows.SubjectValues.{entry_value}
use Rattle.filter_grammar.proofs.rows.subject_value.lent_entry.Given as goal

abbrev pub invariant-loop-entry : goal.invariant-loop-entry
invariant-loop-entry l = entry_value (find (λ e. bytes_eq e.key l.key) l.entries) ≡ entry_value (find (λ e. bytes_eq e.key l.key) (drop l.entry-index l.entries))
