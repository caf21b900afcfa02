-- What the bodies of a copy's items are made of.
use Rattle.std.specs.Prelude.{ℕ, List, [], ◌∷◌, ◌++◌, Option, None, Some}
use Rattle.keeper_memory.specs.declared.copy.entry.OutEntry.{OutEntry}
use Rattle.keeper_memory.specs.declared.copy.entry.Settled.{Settled}
use Rattle.keeper_memory.specs.declared.copy.state.StageState.{StageState}
use Rattle.hub_format.specs.Pieces.{flag, number, sized}
use Rattle.roster_types.specs.Records.{Record}
use Rattle.roster_values.specs.Kinds.{place_of_kind}
use Rattle.row_json.specs.Json.{single_text}
use Rattle.version_core.specs.declared.mark.Write.{Write}

-- an optional part: 0 where there is none, and else 1 in front of it
abbrev pub optional_number : Option ℕ → List ℕ
optional_number None = 0 ∷ []
optional_number (Some n) = 1 ∷ number n

abbrev pub optional_sized : Option (List ℕ) → List ℕ
optional_sized None = 0 ∷ []
optional_sized (Some text) = 1 ∷ sized text

abbrev pub optional_settled : Option Settled → List ℕ
optional_settled None = 0 ∷ []
optional_settled (Some s) = 1 ∷ (number s.status ++ number s.version)

-- the run, the version that is held, its side, and the number of the last entry
abbrev pub state_body : ℕ → Option ℕ → ℕ → ℕ → List ℕ
state_body run held side last = number run ++ (optional_number held ++ side ∷ number last)

abbrev pub stage_body : StageState → List ℕ
stage_body s =
    number s.pin
    ++ (sized s.token ++ s.kinds_done ∷ (number s.staged ++ (optional_number s.total ++ optional_sized s.last)))

-- 1 for a write that deletes and else 0, then its kind, its id and its own body
abbrev pub write_bytes : Write → List ℕ
write_bytes write = flag write.delete ∷ place_of_kind write.kind ∷ (sized write.id ++ sized write.body)

abbrev pub out_body : OutEntry → List ℕ
out_body entry = write_bytes entry.write ++ optional_settled entry.settled

abbrev pub row_body : Record → List ℕ
row_body row = sized (single_text None row)
