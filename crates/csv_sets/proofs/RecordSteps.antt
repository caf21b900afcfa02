-- The records of a text, read one at a time.
use Rattle.std.proofs.Common.{◌≡◌, ℕ, Bool, true, false, List, [], ◌∷◌}
use Rattle.csv_sets.specs.Left.{AllRowsText, GivesRecord}

-- a record that was found, and those behind it
pub found_first : (old new : List (List (List ℕ))) (found : Bool) (cells : List (List ℕ)) → GivesRecord old found cells new → found ≡ true → old ≡ cells ∷ new
found_first old new true cells g e = g
found_first old new false cells g e = cc e

pub found_none : (old new : List (List (List ℕ))) (found : Bool) (cells : List (List ℕ)) → GivesRecord old found cells new → found ≡ false → old ≡ []
found_none old new true cells g e = cc e
found_none old new false cells g e = g

pub text_behind : (old : List (List (List ℕ))) (cells : List (List ℕ)) (new : List (List (List ℕ))) → old ≡ cells ∷ new → AllRowsText old → AllRowsText new
text_behind old cells new e t = (rw e at t).1
