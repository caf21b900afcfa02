-- A delta, turn by turn.
use Rattle.std.proofs.Common.{◌≡◌, ◌+◌, ◌<◌, List, [], ◌∷◌, ◌++◌, Bool, true, false, cond, length, slice_get, None}
use Rattle.std.proofs.Common.{Some, refl, ap, subst, ◌∙◌, arith}
use Rattle.std.proofs.lemmas.Bool.{and_from}
use Rattle.std.specs.FinMap.Entries as entries
use Rattle.std.specs.Option.{option_to_list}
use Rattle.std.specs.Ordering.{is_lt}
use Rattle.std.specs.declared.cmp.Ordering.TheVariants.{Equal, Greater, Less}
use Rattle.delta_parts.specs.Turns.{TurnParts, turn_of, turn_of_both}
use Rattle.reference_rules.proofs.KeyOrder.{and_first, key_exact}
use Rattle.roster_types.specs.Keys.{Ascends, key_cmp, keyed, row_key}
use Rattle.roster_types.specs.Records.{Record}
use Rattle.roster_values.specs.declared.kind.Kind.{Kind}
use Rattle.row_deltas.proofs.StepLemmas.{delta-both, delta-gone, delta-none, delta-put}
use Rattle.row_deltas.specs.Deltas.{AreOf, delta_of, passed}
use Rattle.version_core.proofs.LookUps.{below_trans}
use Rattle.version_core.proofs.Places.{less_from_greater}
use Rattle.version_core.specs.Order.{by_order}
use Rattle.row_deltas.specs.Sameness.{same_row}
use Rattle.row_deltas.specs.declared.entry.DeltaEntry.TheVariants.{Put, Gone}

-- a turn takes a row from one of the lists
pub data Steps (kind : Kind) (olds news : List Record) (turn : TurnParts) : Type 0 where
  Step : delta_of kind olds news ≡ option_to_list turn.entry ++ delta_of kind (passed turn.is_old olds) (passed turn.is_new news)
      → length (passed turn.is_old olds) + length (passed turn.is_new news) < length olds + length news
      → Steps kind olds news turn

module _ (kind : Kind) where
  both_turn : (o n : Record) (olds news : List Record) → AreOf kind (o ∷ olds) → AreOf kind (n ∷ news) → Ascends row_key (o ∷ olds) → Ascends row_key (n ∷ news) → Steps kind (o ∷ olds) (n ∷ news) (turn_of_both o n)
  both_turn o n olds news are_old are_new up up' =
      elim (key_cmp (row_key o) (row_key n)) as (λ r. key_cmp (row_key o) (row_key n) ≡ r → Steps kind (o ∷ olds) (n ∷ news) (by_order r
      (record { entry = Some (Gone o.id); is_old = true; is_new = false })
      (record { entry = cond (same_row n o) None (Some (Put n)); is_old = true; is_new = true })
      (record { entry = Some (Put n); is_old = false; is_new = true }))) [
        | Less ↦ λ less.
            let above : entries.below_all key_cmp (row_key o) (keyed row_key (n ∷ news)) ≡ true = and_from _ _ (ap is_lt less) (below_trans row_key (row_key o) (row_key n) news less (and_first _ _ up')) in
            Step (delta-gone kind o olds (n ∷ news) are_old are_new up up' above) (omega arith)
        | Equal ↦ λ same. Step (delta-both kind o n olds news are_old are_new up up' (key_exact (row_key o) (row_key n) same) ∙ outside (same_row n o)) (omega arith)
        | Greater ↦ λ greater.
            let less = less_from_greater (row_key o) (row_key n) greater in
            let above : entries.below_all key_cmp (row_key n) (keyed row_key (o ∷ olds)) ≡ true = and_from _ _ (ap is_lt less) (below_trans row_key (row_key n) (row_key o) olds less (and_first _ _ up)) in
            Step (delta-put kind n (o ∷ olds) news are_old are_new up up' above) (omega arith)
      ] refl
    where
      outside : (b : Bool) → cond b (delta_of kind olds news) (Put n ∷ delta_of kind olds news) ≡ option_to_list (cond b None (Some (Put n))) ++ delta_of kind olds news
      outside true = refl
      outside false = refl

  pub turn_steps : (olds news : List Record) (turn : TurnParts) → AreOf kind olds → AreOf kind news → Ascends row_key olds → Ascends row_key news → turn_of (slice_get olds 0) (slice_get news 0) ≡ Some turn → Steps kind olds news turn
  turn_steps [] [] turn are_old are_new up up' e = cc
  turn_steps (o ∷ olds) [] turn are_old are_new up up' e =
      let is : record { entry = Some (Gone o.id); is_old = true; is_new = false } ≡ turn = cc in
      subst (Steps kind (o ∷ olds) []) is (Step (delta-gone kind o olds [] are_old are_new up up' refl) (omega arith))
  turn_steps [] (n ∷ news) turn are_old are_new up up' e =
      let is : record { entry = Some (Put n); is_old = false; is_new = true } ≡ turn = cc in
      subst (Steps kind [] (n ∷ news)) is (Step (delta-put kind n [] news are_old are_new up up' refl) (omega arith))
  turn_steps (o ∷ olds) (n ∷ news) turn are_old are_new up up' e =
      let is : turn_of_both o n ≡ turn = cc in
      subst (Steps kind (o ∷ olds) (n ∷ news)) is (both_turn o n olds news are_old are_new up up')

  -- without a turn both lists have ended
  pub turn_ends : (olds news : List Record) → turn_of (slice_get olds 0) (slice_get news 0) ≡ None → delta_of kind olds news ≡ []
  turn_ends [] [] e = delta-none kind
  turn_ends (o ∷ olds) [] e = cc
  turn_ends [] (n ∷ news) e = cc
  turn_ends (o ∷ olds) (n ∷ news) e = cc

  pub passed_of : (is_passed : Bool) (rows : List Record) → AreOf kind rows → AreOf kind (passed is_passed rows)
  passed_of true [] are = tt
  passed_of true (row ∷ rows) are = are.1
  passed_of false rows are = are

  pub step_delta : (olds news : List Record) (turn : TurnParts) → Steps kind olds news turn → delta_of kind olds news ≡ option_to_list turn.entry ++ delta_of kind (passed turn.is_old olds) (passed turn.is_new news)
  step_delta olds news turn (Step delta fewer) = delta

  pub step_fewer : (olds news : List Record) (turn : TurnParts) → Steps kind olds news turn → length (passed turn.is_old olds) + length (passed turn.is_new news) < length olds + length news
  step_fewer olds news turn (Step delta fewer) = fewer
