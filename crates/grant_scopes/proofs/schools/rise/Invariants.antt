use Rattle.std.proofs.Common.{◌≡◌, ◌+◌, ◌<◌, ℕ, List, get_or}
use Rattle.std.specs.Cmp.Lexicographic.{slice_cmp}
use Rattle.std.specs.Ordering.{nat_cmp}
use Rattle.std.specs.declared.cmp.Ordering.TheVariants.{Less}
use Rattle.grant_scopes.proofs.schools.rise.Given as goal

-- each id so far is below the next
abbrev pub invariant-loop-place : goal.invariant-loop-place
invariant-loop-place l = (k : ℕ) (d : List ℕ) → k + 1 < l.place → slice_cmp nat_cmp (get_or l.ids k d) (get_or l.ids (k + 1) d) ≡ Less
