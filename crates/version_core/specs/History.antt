-- The rows of one kind and id, and of all.
use Rattle.std.specs.Prelude.{◌≡◌, ◌==◌, ◌<◌, ◌≤◌, ℕ, Bool, List, [], ◌∷◌, ◌++◌, Option, None, Some, false, get_or}
use Rattle.std.specs.Prelude.{length, map, nat_le, option_to_list, reverse, true, vec_capacity, vec_len}
use Rattle.std.specs.Ordering.{is_gt}
use Rattle.std.specs.List.{AllByRecursion, AllWithin}
use Rattle.std.specs.declared.cmp.Ordering.TheVariants.{Equal, Less}
use Rattle.roster_types.specs.Keys.{Ascends, Key, key_cmp}
use Rattle.roster_values.specs.Kinds.{place_of_kind}
use Rattle.roster_values.specs.declared.kind.Kind.{Kind}
use Rattle.version_core.specs.Changes.{change_key}
use Rattle.version_core.specs.Order.{overlaid, put}
use Rattle.version_core.specs.Since.{standing}
use Rattle.version_core.specs.declared.history.History.{History}
use Rattle.version_core.specs.declared.history.FreshEntries.{FreshEntries}
use Rattle.version_core.specs.declared.row_change.RowChange.{RowChange}
use Rattle.version_core.specs.declared.since.Since.{Since}

-- what stood under one kind and id
abbrev pub Past : Type 0
Past = List (Since RowChange)

abbrev pub past_of : History → Past
past_of history = history.entries.items

abbrev pub past_key : Past → Key
past_key [] = (0, [])
past_key (entry ∷ entries) = change_key entry.value

abbrev pub history_key : History → Key
history_key history = past_key (past_of history)

-- the history is of the kind
abbrev pub is_past_of : Kind → History → Bool
is_past_of kind history = (history_key history).0 == place_of_kind kind

-- all entries are of one kind and id, and there is one
pub record IsPast (past : Past) : Type 0 where
  pub some : 0 < length past
  pub same : AllByRecursion (λ entry. change_key entry.value ≡ past_key past) past

-- pasts in the order of kinds and ids
pub record ArePasts (pasts : List Past) : Type 0 where
  pub all : AllByRecursion IsPast pasts
  pub ascend : Ascends past_key pasts

abbrev pub pasts_of : List History → List Past
pasts_of histories = map past_of histories

-- the rows that stand at a version
abbrev pub rows_at : ℕ → List Past → List RowChange
rows_at version [] = []
rows_at version (past ∷ pasts) = option_to_list (standing version past) ++ rows_at version pasts

-- no entry is younger than the version
abbrev pub AreUpTo : ℕ → List Past → Type 0
AreUpTo version pasts = AllByRecursion (λ past. AllByRecursion (λ entry. entry.version ≤ version) past) pasts

-- the key stands after all keys of the kind at a place up to the id `after`
abbrev pub is_beyond_key : ℕ → Option (List ℕ) → Key → Bool
is_beyond_key place None key = nat_le place key.0
is_beyond_key place (Some after) key = is_gt (key_cmp key (place, after))

-- the history at the place has the key
pub record IsAt (k : Key) (histories : List History) (place : ℕ) : Type 0 where
  pub bound : place < length histories
  pub same : (default : History) → key_cmp (history_key (get_or histories place default)) k ≡ Equal

-- the histories before the gap don't stand after all keys of the kind at a place up to the id `after`, and those from
-- it on do
pub record IsGap (place : ℕ) (after : Option (List ℕ)) (histories : List History) (gap : ℕ) : Type 0 where
  pub bound : gap ≤ length histories
  pub before : AllWithin (λ history. is_beyond_key place after (history_key history) ≡ false) histories 0 gap
  pub beyond : AllWithin (λ history. is_beyond_key place after (history_key history) ≡ true) histories gap (length histories)

-- each entry is older than the version
abbrev pub AreBefore : ℕ → List Past → Type 0
AreBefore version pasts = AllByRecursion (λ past. AllByRecursion (λ entry. entry.version < version) past) pasts

-- the pasts of histories, of which the last have moved to others in reverse order
abbrev pub parts_of : List History → List History → List Past
parts_of histories spare = pasts_of histories ++ pasts_of (reverse spare)

-- the row is below all of the histories
abbrev pub AreAbove : RowChange → List History → Type 0
AreAbove change histories = AllByRecursion (λ history. key_cmp (change_key change) (history_key history) ≡ Less) histories

-- the history that has the row's kind and id has room for it
abbrev pub HaveRoom : RowChange → List History → Type 0
HaveRoom change histories = AllByRecursion (λ history. history_key history ≡ change_key change → vec_len history.entries < vec_capacity history.entries) histories

-- each is empty, and has room
abbrev pub AreFresh : List FreshEntries → Type 0
AreFresh all = AllByRecursion (λ fresh. (fresh.entries.items ≡ []) × (vec_len fresh.entries < vec_capacity fresh.entries)) all

-- the row stands from its version on, and what stood before stands as before
pub record PutsRow (version : ℕ) (change : RowChange) (old new : List Past) : Type 0 where
  pub now : rows_at version new ≡ put change_key change (rows_at version old)
  pub earlier : (v : ℕ) → v < version → rows_at v new ≡ rows_at v old
  pub pasts : ArePasts new
  pub up_to : AreUpTo version old → AreUpTo version new

-- rows stand from their version on, and what stood before stands as before
pub record PutsRows (version : ℕ) (changes : List RowChange) (old new : List Past) : Type 0 where
  pub now : rows_at version new ≡ overlaid change_key (rows_at version old) changes
  pub earlier : (v : ℕ) → v < version → rows_at v new ≡ rows_at v old
  pub pasts : ArePasts new
  pub up_to : AreUpTo version old → AreUpTo version new

-- each history of a row has room for it
abbrev pub AllHaveRoom : List RowChange → List History → Type 0
AllHaveRoom changes histories = AllByRecursion (λ change. HaveRoom change histories) changes

-- from a version on the same rows stand in both
pub record StandsFrom (version : ℕ) (old new : List Past) : Type 0 where
  pub rows : (v : ℕ) → version ≤ v → rows_at v new ≡ rows_at v old
  pub pasts : ArePasts old → ArePasts new
  pub up_to : (v : ℕ) → AreUpTo v old → AreUpTo v new

-- each row in a history of its own, from a version on
pub record AreHistoriesOf (version : ℕ) (changes : List RowChange) (histories : List History) : Type 0 where
  pub pasts : ArePasts (pasts_of histories)
  pub rows : rows_at version (pasts_of histories) ≡ changes
  pub up_to : AreUpTo version (pasts_of histories)
