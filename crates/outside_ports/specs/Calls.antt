-- Counts of the calls that a form in memory has met.
use Rattle.std.specs.Prelude.{ℕ, Bool, List, ◌==◌, if◌then◌else◌}
use Rattle.std.specs.List.{list_any}
use Rattle.roster_base.specs.Faults.{one_more}

-- the numbers, from 1, of the calls that fail, how many calls came, and how many failed
pub record CallCount : Type 0 where
  pub failing : List ℕ
  pub made : ℕ
  pub faults : ℕ

-- the counts before any call
abbrev pub no_calls : List ℕ → CallCount
no_calls failing = record { failing = failing; made = 0; faults = 0 }

-- whether the next call is listed to fail
abbrev pub is_next_listed : CallCount → Bool
is_next_listed c = list_any (λ n. n == one_more c.made) c.failing

-- the counts after a call that is known to fail or not
abbrev pub after_answer : Bool → CallCount → CallCount
after_answer fails c = record c { made = one_more c.made; faults = if fails then one_more c.faults else c.faults }

-- the counts after a call that fails exactly where it is listed
abbrev pub after_call : CallCount → CallCount
after_call c = after_answer (is_next_listed c) c
