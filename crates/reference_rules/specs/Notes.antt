-- What is known of ids: whether each is in a cycle of parents.
use Rattle.std.specs.Prelude.{◌≡◌, Bool, List, Option, Some, None, ⊤, IsSome, bytes_eq, cond, false, true, ℕ}
use Rattle.std.specs.HashMap.{HashMap, get_by}
use Rattle.std.specs.Option.{option_or}
use Rattle.roster_types.specs.Records.{Record}
use Rattle.roster_values.specs.declared.kind.Kind.{Kind}
use Rattle.reference_rules.specs.Parents.{is_in_cycle, parent_of}
use denote.Ref.{Bor}

abbrev pub note_of : {S : Type 0} → HashMap (Bor (List ℕ)) Bool S → List ℕ → Option Bool
note_of notes id = get_by (λ k. bytes_eq id k.now) notes

-- each note is right, and of an id that is known to be in a cycle the parent is known to be in one
pub record AreNotes {S : Type 0} (rows : List Record) (kind : Kind) (notes : HashMap (Bor (List ℕ)) Bool S) : Type 0 where
  pub right : (id : List ℕ) (known : Bool) → note_of notes id ≡ Some known → known ≡ is_in_cycle rows kind id
  pub closed : (id parent : List ℕ) → note_of notes id ≡ Some true → parent_of rows kind id ≡ Some parent → note_of notes parent ≡ Some true

-- where a chain comes to an id the id is known
abbrev pub EndsWell : {S : Type 0} → HashMap (Bor (List ℕ)) Bool S → Option (List ℕ) → Type 0
EndsWell notes None = ⊤
EndsWell notes (Some id) = IsSome (note_of notes id)

-- what was noted stays, and beside it the ids that pass the test are noted to be in no cycle
abbrev pub AreNotedBeside : {S : Type 0} → (List ℕ → Bool) → HashMap (Bor (List ℕ)) Bool S → HashMap (Bor (List ℕ)) Bool S → Type 0
AreNotedBeside test old new = (id : List ℕ) → note_of new id ≡ option_or (note_of old id) (cond (test id) (Some false) None)

-- the ids that pass the test are noted to be in a cycle, and else stays what was noted
abbrev pub AreNotedOver : {S : Type 0} → (List ℕ → Bool) → HashMap (Bor (List ℕ)) Bool S → HashMap (Bor (List ℕ)) Bool S → Type 0
AreNotedOver test old new = (id : List ℕ) → note_of new id ≡ cond (test id) (Some true) (note_of old id)
