-- Marks that were tested one by one.
use Rattle.std.proofs.Common.{◌≡◌, ◌+◌, ◌<◌, ◌≤◌, ℕ, List, [], ◌∷◌, ◌&&◌, true, get_or, length, arith}
use Rattle.std.specs.Prelude.{nat_le}
use Rattle.std.specs.Cmp.{IsTotalOrder}
use Rattle.std.specs.List.{list_all}
use Rattle.std.specs.List.Sorted.{IsStrictlySortedBy}
use Rattle.std.specs.declared.cmp.Ordering.TheVariants.{Less}
use Rattle.std.proofs.lemmas.Bool.{and_parts}
use Rattle.std.proofs.lemmas.Bool.Decides.{nat_tests}
use Rattle.std.proofs.lemmas.Cmp.{on_total}
use Rattle.std.proofs.lemmas.Map.Keys.{sorted_from_all_adjacent}
use Rattle.version_core.specs.Marks.{AreMarks, is_outcome, mark_cmp, mark_key}
use Rattle.version_core.specs.declared.mark.MarkRow.{MarkRow}
use Rattle.version_core.proofs.MarkLemmas.{key_total, no_marks}
use Rattle.version_changes.proofs.AdjacentLemmas.{all_hold}

mark_total : IsTotalOrder mark_cmp
mark_total = on_total mark_key key_total

pub marks_rise : (marks : List MarkRow) → ((k : ℕ) (d : MarkRow) → k + 1 < length marks → mark_cmp (get_or marks k d) (get_or marks (k + 1) d) ≡ Less) → IsStrictlySortedBy mark_cmp marks
marks_rise [] each = (no_marks 0).rise
marks_rise (mark ∷ marks) each = sorted_from_all_adjacent mark_total (mark ∷ marks) mark (λ k lt. each k mark lt)

pub marks_are : (newest : ℕ) (marks : List MarkRow) → list_all (λ mark. is_outcome mark.write.delete mark.kept.outcome && nat_le mark.kept.version newest) marks ≡ true → IsStrictlySortedBy mark_cmp marks → AreMarks newest marks
marks_are newest marks sound rise = record {
  outcomes = all_hold (λ mark. is_outcome mark.write.delete mark.kept.outcome && nat_le mark.kept.version newest) (λ mark. is_outcome mark.write.delete mark.kept.outcome ≡ true) marks
      (λ mark yes. (and_parts (is_outcome mark.write.delete mark.kept.outcome) (nat_le mark.kept.version newest) yes).0) sound;
  versions = all_hold (λ mark. is_outcome mark.write.delete mark.kept.outcome && nat_le mark.kept.version newest) (λ mark. mark.kept.version ≤ newest) marks
      (λ mark yes. let le = (and_parts (is_outcome mark.write.delete mark.kept.outcome) (nat_le mark.kept.version newest) yes).1 in small mark.kept.version le) sound;
  rise = rise;
}
  where
    small : (version : ℕ) → nat_le version newest ≡ true → version ≤ newest
    small version le = grind (arith, nat_tests)
