-- The consumer's copy.
use Rattle.std.specs.Prelude.{◌≡◌, ◌<◌, ◌≤◌, ℕ, true, List, [], ◌∷◌, length, get_or, Option, None, IfSome, find}
use Rattle.std.specs.Prelude.{is_none, nat_lt, MatchOption, ⊤}
use Rattle.std.specs.List.{All}
use Rattle.std.specs.Option.{option_map_or}
use Rattle.roster_types.specs.Records.{Record}
use Rattle.roster_values.specs.declared.kind.Kind.{Kind}
use Rattle.roster_values.specs.declared.kind.Kind.TheVariants.{Categories, LineItems, Results}
use Rattle.roster_values.specs.Kinds.{all_kinds, place_of_kind}
use Rattle.version_core.specs.declared.mark.Write.{Write}
use Rattle.keeper_memory.specs.declared.copy.entry.OutEntry.{OutEntry}
use Rattle.keeper_memory.specs.declared.copy.state.TheConstants.{LAST}
use Rattle.keeper_memory.specs.copy.Lists.{AreLists, IsList, kind_count}

-- a stage: of which version and for which token, the lists of the kinds that are done, the rows of the next kind,
-- and how many that kind has in all
pub record Stage : Type 0 where
  pub pin : ℕ
  pub token : List ℕ
  pub done : List (List Record)
  pub present : List Record
  pub total : Option ℕ

-- a version, the token under which it was copied, where that is known, and its lists, one for each kind
pub record Held : Type 0 where
  pub version : ℕ
  pub token : Option (List ℕ)
  pub lists : List (List Record)

-- what a consumer keeps: the number of its last run, what it holds, what it gathers, and its outbox with the number of
-- the last entry
pub record Copy : Type 0 where
  pub run : ℕ
  pub held : Option Held
  pub stage : Option Stage
  pub entries : List OutEntry
  pub last_number : ℕ

-- the rows of a kind that are held; none where nothing is held
abbrev pub held_list : Copy → Kind → List Record
held_list c kind = option_map_or (λ h. get_or h.lists (place_of_kind kind) []) c.held []

-- the token under which what is held was copied; none where nothing is held
abbrev pub held_token : Copy → Option (List ℕ)
held_token c = option_map_or (λ h. h.token) c.held None

-- the first entry with a number above `after`
abbrev pub entry_after : ℕ → List OutEntry → Option OutEntry
entry_after after entries = find (λ entry. nat_lt after entry.number) entries

-- the first entry that isn't settled
abbrev pub first_unsettled : List OutEntry → Option OutEntry
first_unsettled entries = find (λ entry. is_none entry.settled) entries

-- ---- what every copy meets

-- what is held may be: a list for each kind, of a version with a number that may be
pub record IsHeld (h : Held) : Type 0 where
  pub version : h.version ≤ LAST
  pub all : length h.lists ≡ kind_count
  pub lists : AreLists all_kinds h.lists

-- a stage may be: its lists are those of the first kinds; once all kinds are done there is no next kind
pub record IsStage (s : Stage) : Type 0 where
  pub pin : s.pin ≤ LAST
  pub done : AreLists all_kinds s.done
  pub present : (kind : Kind) → place_of_kind kind ≡ length s.done → IsList kind s.present
  pub whole : length s.done ≡ kind_count → (s.present ≡ []) × (s.total ≡ None)

-- the kinds that callers write
abbrev pub IsGradebook : Kind → Type 0
IsGradebook Categories = ⊤
IsGradebook LineItems = ⊤
IsGradebook Results = ⊤
IsGradebook kind = ⊥

-- the most bytes of a body: as many as a hub reads in a request
abbrev pub max_body : ℕ
max_body = 131_072

-- the most rows of a page that a consumer asks for: a hub gives no more, whatever a request says
abbrev pub largest_limit : ℕ
largest_limit = 1000

-- how often a consumer tries a request at most: so few that a run counts all its exchanges in 64 bits
abbrev pub largest_tries : ℕ
largest_tries = 100

-- a write that may be entered
pub record IsOutWrite (write : Write) : Type 0 where
  pub kind : IsGradebook write.kind
  pub body : length write.body ≤ max_body
  pub delete : write.delete ≡ true → write.body ≡ []

-- the numbers rise, each above the one before it
abbrev pub NumbersRise : ℕ → List OutEntry → Type 0
NumbersRise n [] = ⊤
NumbersRise n (entry ∷ entries) = (n < entry.number) × NumbersRise entry.number entries

-- the settled entries stand in front of the others
abbrev pub SettledFirst : List OutEntry → Type 0
SettledFirst [] = ⊤
SettledFirst (entry ∷ entries) = MatchOption entry.settled (All (λ e. e.settled ≡ None) entries) (λ _. SettledFirst entries)

-- entries of an outbox, up to the last number
pub record AreEntries (last : ℕ) (entries : List OutEntry) : Type 0 where
  pub writes : All (λ entry. IsOutWrite entry.write) entries
  pub rise : NumbersRise 0 entries
  pub below : All (λ entry. entry.number ≤ last) entries
  pub settled : SettledFirst entries

-- what every copy meets
pub record IsCopy (c : Copy) : Type 0 where
  pub run : c.run ≤ LAST
  pub held : IfSome c.held IsHeld
  pub stage : IfSome c.stage IsStage
  pub last : c.last_number ≤ LAST
  pub entries : AreEntries c.last_number c.entries
