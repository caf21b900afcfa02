-- A walk through the rows of a kind before and after.
use Rattle.std.proofs.Common.{◌≡◌, ℕ, ◌+◌, ◌<◌, ◌≤◌, List, [], filter, length, slice_get, None, Some, ap, subst, arith}
use Rattle.std.proofs.lemmas.List.Sums.{length-filter}
use Rattle.delta_parts.proofs.Optional.{count_turn, part_turn}
use Rattle.row_walks.proofs.Parting.{Parts, part_end, part_start}
use Rattle.delta_parts.proofs.Resting.{kind_rows}
use Rattle.delta_parts.proofs.Turning.{passed_of, step_delta, step_fewer, turn_ends, turn_steps}
use Rattle.delta_parts.specs.Parts.{count_on, part_of_delta, with_option}
use Rattle.row_walks.specs.Below.Pages.{slice}
use Rattle.delta_parts.specs.Turns.{TurnParts, turn_of}
use Rattle.delta_parts.specs.declared.part.DeltaPart.{DeltaPart}
use Rattle.reference_rules.proofs.Rest.{rest_start}
use Rattle.roster_types.specs.Keys.{Ascends, count_of, is_of_kind, row_key}
use Rattle.roster_types.specs.Records.{Record}
use Rattle.roster_values.specs.declared.kind.Kind.{Kind}
use Rattle.version_core.proofs.LookUps.{Ascends-filter}
use Rattle.row_deltas.proofs.EntryLemmas.{length-delta}
use Rattle.row_deltas.proofs.StepLemmas.{passed_up}
use Rattle.row_deltas.specs.Deltas.{AreOf, delta_of, ids_gone, passed, rows_put}
use Rattle.row_deltas.specs.declared.entry.DeltaEntry.{DeltaEntry}

-- what is found so far, with what differs of the rows that are left, is the part of the whole
pub record Walks (kind : Kind) (limit offset : ℕ) (whole : List DeltaEntry) (count : ℕ) (found : List DeltaEntry) (old new : List Record) : Type 0 where
  pub part : Parts limit offset count found (delta_of kind old new) (slice limit offset whole)
  pub total : count + length (delta_of kind old new) ≡ length whole
  pub are_old : AreOf kind old
  pub are_new : AreOf kind new
  pub up_old : Ascends row_key old
  pub up_new : Ascends row_key new

module _ (kind : Kind) where
  pub of_kind : (rows : List Record) → AreOf kind (filter (is_of_kind kind) rows)
  of_kind rows = subst (AreOf kind) (rest_start kind rows) (kind_rows kind rows)

  module _ (limit offset : ℕ) (befores afters : List Record) where
    pub walk_start : (old new : List Record) (found : List DeltaEntry) → Ascends row_key befores → Ascends row_key afters → old ≡ filter (is_of_kind kind) befores → new ≡ filter (is_of_kind kind) afters → found ≡ []
        → Walks kind limit offset (delta_of kind (filter (is_of_kind kind) befores) (filter (is_of_kind kind) afters)) 0 found old new
    walk_start old new found up up' is is' none =
        rw (is, is', none) (record {
          part = part_start limit offset (delta_of kind (filter (is_of_kind kind) befores) (filter (is_of_kind kind) afters));
          total = omega arith;
          are_old = of_kind befores;
          are_new = of_kind afters;
          up_old = Ascends-filter row_key (is_of_kind kind) befores up;
          up_new = Ascends-filter row_key (is_of_kind kind) afters up';
        })

    pub length-kinds : length (delta_of kind (filter (is_of_kind kind) befores) (filter (is_of_kind kind) afters)) ≤ count_of kind befores + count_of kind afters
    length-kinds = omega (arith, length-delta kind (filter (is_of_kind kind) befores) (filter (is_of_kind kind) afters), length-filter (is_of_kind kind) befores, length-filter (is_of_kind kind) afters)

  module _ {limit offset : ℕ} {whole : List DeltaEntry} {count : ℕ} {found : List DeltaEntry} {old new : List Record}
      (walks : Walks kind limit offset whole count found old new) where
    pub walk_on : (turn : TurnParts) (count' : ℕ) (found' : List DeltaEntry) (old' new' : List Record) → turn_of (slice_get old 0) (slice_get new 0) ≡ Some turn
        → count' ≡ count_on count turn.entry → found' ≡ with_option limit offset count turn.entry found → old' ≡ passed turn.is_old old → new' ≡ passed turn.is_new new
        → Walks kind limit offset whole count' found' old' new'
    walk_on turn count' found' old' new' turns counts finds olds news =
        let steps = turn_steps kind old new turn walks.are_old walks.are_new walks.up_old walks.up_new turns in
        let delta = step_delta kind old new turn steps in
        let left = delta_of kind (passed turn.is_old old) (passed turn.is_new new) in
        rw (counts, finds, olds, news) (record {
          part = part_turn limit offset count turn.entry found left (slice limit offset whole) (subst (λ (xs : List DeltaEntry). Parts limit offset count found xs (slice limit offset whole)) delta walks.part);
          total = count_turn count turn.entry left (length whole) (subst (λ (xs : List DeltaEntry). count + length xs ≡ length whole) delta walks.total);
          are_old = passed_of kind turn.is_old old walks.are_old;
          are_new = passed_of kind turn.is_new new walks.are_new;
          up_old = passed_up turn.is_old old walks.up_old;
          up_new = passed_up turn.is_new new walks.up_new;
        })

    pub walk_fewer : (turn : TurnParts) (old' new' : List Record) → turn_of (slice_get old 0) (slice_get new 0) ≡ Some turn → old' ≡ passed turn.is_old old → new' ≡ passed turn.is_new new → length old' + length new' < length old + length new
    walk_fewer turn old' new' turns olds news =
        rw (olds, news) (step_fewer kind old new turn (turn_steps kind old new turn walks.are_old walks.are_new walks.up_old walks.up_new turns))

    pub walk_few : count ≤ length whole
    walk_few = omega (arith, walks.total)

    walk_found : turn_of (slice_get old 0) (slice_get new 0) ≡ None → found ≡ slice limit offset whole
    walk_found none =
        part_end limit offset count found (slice limit offset whole) (subst (λ (xs : List DeltaEntry). Parts limit offset count found xs (slice limit offset whole)) (turn_ends kind old new none) walks.part)

    walk_total : turn_of (slice_get old 0) (slice_get new 0) ≡ None → count ≡ length whole
    walk_total none = let ends = ap length (turn_ends kind old new none) in omega (arith, ends, walks.total)

    -- what is found is the part
    pub walk_part : turn_of (slice_get old 0) (slice_get new 0) ≡ None → let found_part : DeltaPart = record { rows = rows_put found; gone = ids_gone found; total = count } in found_part ≡ part_of_delta limit offset whole
    walk_part none = λ i. record { rows = rows_put (walk_found none i); gone = ids_gone (walk_found none i); total = walk_total none i }
