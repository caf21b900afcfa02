-- Two versions, and which rows changed between them.
use Rattle.std.specs.Prelude.{◌≡◌, ◌&&◌, ◌==◌, ◌≤◌, ℕ, Bool, List, None, filter, map, nat_le, nat_lt}
use Rattle.std.specs.List.{list_any}
use Rattle.roster_types.specs.Keys.{Key, look_up}
use Rattle.roster_values.specs.Kinds.{place_of_kind}
use Rattle.roster_values.specs.declared.kind.Kind.{Kind}
use Rattle.version_core.specs.Changes.{change_key}
use Rattle.version_core.specs.History.{ArePasts, Past, past_key, pasts_of, rows_at}
use Rattle.version_core.specs.declared.change.BaseVersion.{BaseVersion}
use Rattle.version_core.specs.declared.row_change.RowChange.{RowChange}
use Rattle.version_core.specs.declared.since.Since.{Since}
use Rattle.version_core.specs.declared.span.Span.TheInside.{Inside}

-- a version, and one that isn't before it
pub record Spanned : Type 0 where
  pub before : BaseVersion
  pub after : BaseVersion

abbrev pub span_of : Inside → Spanned
span_of span = record { before = span.first; after = span.last }

-- both are read from the same histories
pub record IsSpan (span : Inside) : Type 0 where
  pub pasts : ArePasts (pasts_of span.histories.now)
  pub first : span.first.rows ≡ rows_at span.from (pasts_of span.histories.now)
  pub last : span.last.rows ≡ rows_at span.to (pasts_of span.histories.now)
  pub order : span.from ≤ span.to

-- the entry stands from a version on that is above the first and not above the second
abbrev pub is_between : ℕ → ℕ → Since RowChange → Bool
is_between from to entry = nat_lt from entry.version && nat_le entry.version to

abbrev pub has_change : ℕ → ℕ → Past → Bool
has_change from to past = list_any (is_between from to) past

abbrev pub is_of_place : ℕ → Past → Bool
is_of_place place past = (past_key past).0 == place

abbrev pub past_id : Past → List ℕ
past_id past = (past_key past).1

-- the ids of the rows of a kind that changed
abbrev pub changed_ids : Kind → ℕ → ℕ → List Past → List (List ℕ)
changed_ids kind from to pasts = map past_id (filter (has_change from to) (filter (is_of_place (place_of_kind kind)) pasts))

-- the key of the row of a kind that has an id
abbrev pub key_in : Kind → List ℕ → Key
key_in kind id = (place_of_kind kind, id)

-- under each id that isn't among these, both have the same row of the kind, or neither has one
abbrev pub AreSameBeside : Kind → List (List ℕ) → List RowChange → List RowChange → Type 0
AreSameBeside kind ids one other =
    (id : List ℕ) → look_up (key_in kind) (key_in kind id) ids ≡ None → look_up change_key (key_in kind id) one ≡ look_up change_key (key_in kind id) other
