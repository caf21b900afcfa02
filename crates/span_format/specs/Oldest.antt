-- What is known of the oldest version and the change behind it.
use Rattle.std.specs.Prelude.{◌≡◌, ◌-◌, ℕ, List, ◌∷◌, Option, map, nat_lt, true}
use Rattle.std.specs.Option.{ForSome}
use Rattle.item_maps.specs.Edits.{entry_of}
use Rattle.item_maps.specs.declared.item.Item.{Item}
use Rattle.version_core.specs.declared.change.Change.{Change}
use Rattle.version_core.specs.declared.hub_tables.HubTables.{HubTables}
use Rattle.hub_format.specs.Format.{grants_under, own_version}
use Rattle.span_format.specs.Format.{own_names}

-- these items are those of the base's grants, and of the version and the rows' names of the first change where there is
-- one
pub record AreOldest (t : HubTables) (base first named : List Item) : Type 0 where
  pub grants : map entry_of base ≡ grants_under t.base.number t.base.grants
  pub version : (oldest : Change) (changes : List Change) → t.changes ≡ oldest ∷ changes
      → map entry_of first ≡ own_version oldest
  pub names : (oldest : Change) (changes : List Change) → t.changes ≡ oldest ∷ changes
      → map entry_of named ≡ own_names oldest

-- they are, where a change would let the oldest go
abbrev pub AreOldestFor : HubTables → ℕ → ℕ → Option Change → List Item → List Item → List Item → Type 0
AreOldestFor t keep base change grants first named =
    ForSome change (λ change. nat_lt keep (change.version - base) ≡ true → AreOldest t grants first named)
