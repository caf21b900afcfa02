-- Lists of schools.
use Rattle.std.specs.Prelude.{ℕ, List}
use Rattle.roster_base.specs.Order.{RiseBy}

-- ids in ascending order of their bytes, each once
abbrev pub AreSchools : List (List ℕ) → Type 0
AreSchools ids = RiseBy (λ id. id) ids
