-- What differs of given ids, one after another.
use Rattle.std.proofs.Common.{◌≡◌, ◌==◌, ℕ, ◌+◌, List, [], ◌∷◌, ◌++◌, cond, filter, length, Option, None, Some, refl}
use Rattle.std.proofs.Common.{ap, subst, ◌∙◌, arith}
use Rattle.std.proofs.lemmas.Bool.{eq-eqb}
use Rattle.std.specs.Prelude.{option_and_then}
use Rattle.std.specs.Option.{option_to_list}
use Rattle.delta_parts.proofs.Optional.{count_turn, part_turn}
use Rattle.row_walks.proofs.Parting.{Parts, part_end, part_start}
use Rattle.delta_parts.proofs.Walking.{of_kind}
use Rattle.delta_parts.specs.Parts.{count_on, part_of_delta, with_option}
use Rattle.delta_parts.specs.declared.part.DeltaPart.{DeltaPart}
use Rattle.row_walks.specs.Below.Pages.{slice}
use Rattle.reference_rules.proofs.KeyOrder.{found_key}
use Rattle.roster_types.specs.Keys.{Ascends, Key, is_of_kind, look_up, row_key}
use Rattle.roster_types.specs.Records.{Record}
use Rattle.roster_values.specs.Kinds.{place_of_kind}
use Rattle.roster_values.specs.declared.kind.Kind.{Kind}
use Rattle.row_deltas.proofs.AtLemmas.{delta-at}
use Rattle.version_core.proofs.LookUps.{Ascends-filter, if_kept, look_up-filter}
use Rattle.version_core.specs.Spans.{key_in}
use Rattle.row_deltas.specs.Deltas.{Cover, delta_of, difference, entries_at, ids_gone, rows_put}
use Rattle.row_deltas.specs.declared.entry.DeltaEntry.{DeltaEntry}

-- a row of the kind is found among all as among those of the kind
pub kind_look_up : (kind : Kind) (id : List ℕ) (rows : List Record) → Ascends row_key rows → look_up row_key (key_in kind id) (filter (is_of_kind kind) rows) ≡ look_up row_key (key_in kind id) rows
kind_look_up kind id rows up = look_up-filter row_key (is_of_kind kind) (key_in kind id) rows up ∙ by (look_up row_key (key_in kind id) rows) refl
  where
    by : (o : Option Record) → look_up row_key (key_in kind id) rows ≡ o → option_and_then (if_kept row_key (is_of_kind kind)) o ≡ o
    by None e = refl
    by (Some row) e = ap (λ b. cond b (Some row) None) (ap (λ (k : Key). k.0 == place_of_kind kind) (found_key row_key (key_in kind id) rows row e) ∙ eq-eqb (place_of_kind kind) (place_of_kind kind) refl)

-- what is found so far, with what differs of the ids that are left, is the part of the whole
pub record Lists (kind : Kind) (old new : List Record) (limit offset : ℕ) (whole : List DeltaEntry) (count : ℕ) (found : List DeltaEntry) (left : List (List ℕ)) : Type 0 where
  pub part : Parts limit offset count found (entries_at kind old new left) (slice limit offset whole)
  pub total : count + length (entries_at kind old new left) ≡ length whole

module _ (kind : Kind) (limit offset : ℕ) (befores afters : List Record) where
  abbrev pub whole : List DeltaEntry
  whole = delta_of kind (filter (is_of_kind kind) befores) (filter (is_of_kind kind) afters)

  -- that of what differs between the rows
  abbrev pub ListsBetween : ℕ → List DeltaEntry → List (List ℕ) → Type 0
  ListsBetween = Lists kind (filter (is_of_kind kind) befores) (filter (is_of_kind kind) afters) limit offset whole

  pub list_start : (ids : List (List ℕ)) (found : List DeltaEntry) → Ascends row_key befores → Ascends row_key afters → Ascends (key_in kind) ids
      → Cover kind (filter (is_of_kind kind) befores) (filter (is_of_kind kind) afters) ids → found ≡ []
      → ListsBetween 0 found ids
  list_start ids found up up' rise cover none =
      let old = filter (is_of_kind kind) befores in
      let new = filter (is_of_kind kind) afters in
      let same = delta-at kind old new (of_kind kind befores) (of_kind kind afters) (Ascends-filter row_key (is_of_kind kind) befores up) (Ascends-filter row_key (is_of_kind kind) afters up') ids rise cover in
      rw none (record {
        part = subst (λ (xs : List DeltaEntry). Parts limit offset 0 [] xs (slice limit offset whole)) same (part_start limit offset whole);
        total = let e = ap length same in omega arith;
      })

  pub list_on : (count : ℕ) (found : List DeltaEntry) (left : List (List ℕ)) (id : List ℕ) (rest : List (List ℕ)) (count' : ℕ) (found' : List DeltaEntry) → Ascends row_key befores → Ascends row_key afters
      → ListsBetween count found left → left ≡ id ∷ rest
      → let o = difference (look_up row_key (key_in kind id) befores) (look_up row_key (key_in kind id) afters) in
      count' ≡ count_on count o → found' ≡ with_option limit offset count o found
      → ListsBetween count' found' rest
  list_on count found left id rest count' found' up up' lists here counts finds =
      let old = filter (is_of_kind kind) befores in
      let new = filter (is_of_kind kind) afters in
      let o = difference (look_up row_key (key_in kind id) befores) (look_up row_key (key_in kind id) afters) in
      let first : entries_at kind old new left ≡ option_to_list o ++ entries_at kind old new rest =
      ap (entries_at kind old new) here ∙ (λ i. option_to_list (difference (kind_look_up kind id befores up i) (kind_look_up kind id afters up' i)) ++ entries_at kind old new rest) in
      rw (counts, finds) (record {
        part = part_turn limit offset count o found (entries_at kind old new rest) (slice limit offset whole) (subst (λ (xs : List DeltaEntry). Parts limit offset count found xs (slice limit offset whole)) first lists.part);
        total = count_turn count o (entries_at kind old new rest) (length whole) (subst (λ (xs : List DeltaEntry). count + length xs ≡ length whole) first lists.total);
      })

  -- where none is left, what is found is the part
  pub list_end : (count : ℕ) (found : List DeltaEntry) (left : List (List ℕ)) → ListsBetween count found left → left ≡ []
      → let found_part : DeltaPart = record { rows = rows_put found; gone = ids_gone found; total = count } in found_part ≡ part_of_delta limit offset whole
  list_end count found left lists none =
      let old = filter (is_of_kind kind) befores in
      let new = filter (is_of_kind kind) afters in
      let all : found ≡ slice limit offset whole = part_end limit offset count found (slice limit offset whole) (subst (λ ids. Parts limit offset count found (entries_at kind old new ids) (slice limit offset whole)) none lists.part) in
      let ends = ap (λ ids. length (entries_at kind old new ids)) none in
      let counted : count ≡ length whole = omega (arith, ends, lists.total) in
      λ i. record { rows = rows_put (all i); gone = ids_gone (all i); total = counted i }
