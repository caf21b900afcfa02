-- Whether a delta fits what is held.
use Rattle.std.specs.Prelude.{ℕ, ◌&&◌, not, Bool, true, List, [], ◌∷◌, is_some}
use Rattle.roster_types.specs.Keys.{look_up, row_key}
use Rattle.roster_types.specs.Records.{Record}
use Rattle.roster_values.specs.declared.kind.Kind.{Kind}
use Rattle.version_core.specs.Spans.{key_in}

-- a row of the kind has the id
abbrev pub has_id : Kind → List Record → List ℕ → Bool
has_id kind rows id = is_some (look_up row_key (key_in kind id) rows)

-- no row of the kind has one of these ids
abbrev pub apart : Kind → List Record → List (List ℕ) → Bool
apart kind rows [] = true
apart kind rows (id ∷ ids) = not (has_id kind rows id) && apart kind rows ids

-- one of the ids is that of the row
abbrev pub has_row : Kind → List (List ℕ) → Record → Bool
has_row kind ids row = is_some (look_up (key_in kind) (row_key row) ids)

-- no id is gone of which a row is put, and each is that of a row which is held
abbrev pub fits : Kind → List Record → List Record → List (List ℕ) → Bool
fits kind held puts [] = true
fits kind held puts (id ∷ gone) = has_id kind held id && (not (has_id kind puts id) && fits kind held puts gone)
