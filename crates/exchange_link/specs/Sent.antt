-- What sending the entries leaves.
use Rattle.std.specs.Prelude.{◌≡◌, ◌⊎◌, ℕ, ◌+◌, ◌≤◌, List, [], ◌∷◌, length, Option, Some, None, IfSome, IsSomeAnd}
use Rattle.std.specs.Prelude.{filter, is_none, ⊤}
use Rattle.keeper_memory.specs.copy.Changes.{settled_first}
use Rattle.keeper_memory.specs.copy.Copies.{Copy, first_unsettled}
use Rattle.keeper_memory.specs.declared.copy.entry.OutEntry.{OutEntry}
use Rattle.keeper_memory.specs.declared.copy.entry.Settled.{Settled}
use Rattle.exchange_link.specs.declared.send_answer.SendAnswer.{SendAnswer}
use Rattle.exchange_link.specs.declared.send_answer.SendAnswer.TheVariants as answer

-- how many entries aren't settled
abbrev pub unsettled : List OutEntry → ℕ
unsettled entries = length (filter (λ entry. is_none entry.settled) entries)

-- the entries once these are settled one after another, each the first that wasn't
abbrev pub settled_by : List Settled → List OutEntry → List OutEntry
settled_by [] entries = entries
settled_by (s ∷ ss) entries = settled_by ss (settled_first s entries)

-- so many more are settled, in order and without a gap; numbers and writes stay, and none is added
pub record SettlesMore (count : ℕ) (before after : List OutEntry) : Type 0 where
  pub settled : List Settled
  pub number : length settled ≡ count
  pub enough : count ≤ unsettled before
  pub entries : after ≡ settled_by settled before

-- after `Settled` all entries are settled, and so many of them were in this call
abbrev pub AllSettled : SendAnswer → ℕ → List OutEntry → Type 0
AllSettled (answer.Settled count) settled entries = (count ≡ settled) × (first_unsettled entries ≡ None)
AllSettled a settled entries = ⊤

-- what sending leaves of a copy, by its answer
pub record SendLeaves (a : SendAnswer) (before after : Copy) : Type 0 where
  pub run : (after.run ≡ before.run) ⊎ (after.run ≡ before.run + 1)
  pub held : after.held ≡ before.held
  pub stage : after.stage ≡ before.stage
  pub last_number : after.last_number ≡ before.last_number
  pub count : ℕ
  pub entries : SettlesMore count before.entries after.entries
  pub all : AllSettled a count after.entries

-- the number that an answer names
abbrev pub number_in : SendAnswer → Option ℕ
number_in (answer.Interrupted number) = Some number
number_in (answer.NoScope number) = Some number
number_in (answer.BadReply number) = Some number
number_in (answer.MarkTaken number) = Some number
number_in (answer.HubFault number) = Some number
number_in (answer.HubNoMemory number) = Some number
number_in a = None

-- an answer that names a number names that of the first entry that isn't settled
abbrev pub NamesFirst : SendAnswer → List OutEntry → Type 0
NamesFirst a entries = IfSome (number_in a) (λ number. IsSomeAnd (first_unsettled entries) (λ entry. entry.number ≡ number))
