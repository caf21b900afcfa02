-- The order of a seat's reads.
use Rattle.std.proofs.Common.{◌≡◌, inl, inr, ℤ, Bool, true, false, List, [], ◌∷◌, Option, Some, None, refl, sym, subst}
use Rattle.std.specs.Prelude.{MatchBool}
use Rattle.std.specs.List.{AllByRecursion}
use mathlib.Core.List.{IsPrefix}
use Rattle.hub_history.proofs.Fronts.{prefix_self, prefix_trans}
use Rattle.hub_history.specs.declared.entry.Entry.{Entry}
use Rattle.hub_shared.specs.Seats.{SeatView}
use Rattle.hub_shared.specs.Serving.{All, AnsweredAt, AreKnown, Exchange, InOrder, ReadsBySeat, TakesShared}
use Rattle.hub_shared.specs.Serving.{WritesBySeat}
use Rattle.hub_spec.specs.rules.Wanted.{is_write}
use Rattle.keeper_memory.specs.Kept.{KeptState}

known_more : (places : List (List Entry)) (before now : SeatView) → IsPrefix before.seen now.seen → IsPrefix before.told now.told → AreKnown places before → AreKnown places now
known_more [] before now seen told known = tt
known_more (p ∷ places) before now seen told (inl begins, known) = (inl (prefix_trans p before.seen now.seen begins seen), known_more places before now seen told known)
known_more (p ∷ places) before now seen told (inr begins, known) = (inr (prefix_trans p before.told now.told begins told), known_more places before now seen told known)

all_begin : (places : List (List Entry)) (before : SeatView) (place : List Entry) → IsPrefix before.seen place → IsPrefix before.told place → AreKnown places before → AllByRecursion (λ p. IsPrefix p place) places
all_begin [] before place seen told known = tt
all_begin (p ∷ places) before place seen told (inl begins, known) = (prefix_trans p before.seen place begins seen, all_begin places before place seen told known)
all_begin (p ∷ places) before place seen told (inr begins, known) = (prefix_trans p before.told place begins told, all_begin places before place seen told known)

same_begins : (xs ys : List Entry) → ys ≡ xs → IsPrefix xs ys
same_begins xs ys same = subst (λ zs. IsPrefix xs zs) (sym same) (prefix_self xs)

module _ (opening : KeptState) (moment : Option ℤ) where
  answered_at : (places : List (List Entry)) (e : Exchange) (before now : SeatView) → AreKnown places before → (b : Bool) → is_write e.request.verb ≡ b
      → MatchBool b (WritesBySeat opening moment e.request e.reply before now) (ReadsBySeat opening e.request e.reply before now)
      → (place : List Entry) × AnsweredAt opening moment places e place × AreKnown (place ∷ places) now
  answered_at places e before now known true is w =
      (w.receipt, rw is w.written, (inr w.learnt, known_more places before now (same_begins before.seen now.seen w.seen) w.told known))
  answered_at places e before now known false is r =
      let more : AreKnown places now = known_more places before now r.seen (same_begins before.told now.told r.told) known in
      elim r.answer [
        | inl wants ↦ ([], rw is (inl (wants, refl)), (inl (now.seen, refl), more))
        | inr (told, reads) ↦ (now.seen, rw is (inr (reads, all_begin places before now.seen r.seen told known)), (inl (prefix_self now.seen), more))
      ]

  pub in_order : (places : List (List Entry)) (exchanges : List Exchange) (before now : SeatView) → AreKnown places before → All (TakesShared opening moment) exchanges (Some before) (Some now)
      → InOrder opening moment places exchanges
  in_order places [] before now known all = tt
  in_order places (e ∷ exchanges) before now known (None, taken, all) = absurd taken
  in_order places (e ∷ exchanges) before now known (Some mid, taken, all) =
      let (place, answered, more) = answered_at places e before mid known (is_write e.request.verb) refl taken in
      (place, answered, in_order (place ∷ places) exchanges mid now more all)
