-- The ids that a chain passes, and their notes.
use Rattle.std.proofs.Common.{◌≡◌, ℕ, zero, suc, ◌+◌, ◌-◌, ◌<◌, ◌⊎◌, ◌||◌, Bool, true, false, cond, List, [], ◌∷◌, ◌++◌}
use Rattle.std.proofs.Common.{length, Option, Some, None, Result, Ok, Err, IfOk, OnOk, bytes_eq, option_and_then}
use Rattle.std.proofs.Common.{slice_get, refl, sym, ap, subst, ◌∙◌, arith, inl, inr}
use Rattle.std.specs.Prelude.{IsSome, is_some}
use Rattle.std.proofs.lemmas.Bool.{cases_lt}
use Rattle.std.specs.HashMap.{HashMap}
use Rattle.std.specs.List.{list_any}
use Rattle.std.specs.Option.{option_or}
use Rattle.std.proofs.lemmas.List.{length_push}
use Rattle.std.proofs.lemmas.Map.Keys.{any_passes_from_place}
use Rattle.std.proofs.lemmas.Option.{slice_get_within}
use Rattle.std.proofs.lemmas.Slice.Eq.{bytes_eq-Decides}
use Rattle.roster_types.specs.Records.{Record}
use Rattle.roster_values.specs.declared.kind.Kind.{Kind}
use Rattle.reference_rules.proofs.CycleLemmas.{in_cycle_on, not_in_cycle, nth_from}
use Rattle.reference_rules.proofs.ParentChains.{follows_more}
use Rattle.reference_rules.proofs.Pigeonhole.{in_cycle_from_turns}
use Rattle.reference_rules.specs.Notes.{AreNotedBeside, AreNotedOver, AreNotes, EndsWell, note_of}
use Rattle.reference_rules.specs.Parents.{ArePassed, is_in_cycle, nth_parent, parent_of}
use denote.Ref.{Bor}

-- what stands in a list and one more stood in the list, or is the one more
pushed : {X : Type 0} (xs : List X) (y z : X) (n : ℕ) → slice_get (xs ++ y ∷ []) n ≡ Some z → (slice_get xs n ≡ Some z) ⊎ ((length xs ≡ n) × (y ≡ z))
pushed [] y z zero at = let same : y ≡ z = cc in inr (refl, same)
pushed [] y z (suc n) at = cc
pushed (x ∷ xs) y z zero at = inl at
pushed (x ∷ xs) y z (suc n) at = elim (pushed xs y z n at) [
  | inl before ↦ inl before
  | inr here ↦ inr (ap (λ m. suc m) here.0, here.1)
]

-- a chain passes one id more
module _ (rows : List Record) (kind : Kind) (id : List ℕ) (passed passed' : List (Bor (List ℕ))) (y : Bor (List ℕ)) (push : passed' ≡ passed ++ y ∷ []) (here : nth_parent rows kind id (length passed) ≡ Some y.now) where
  pub passed_more : ArePassed rows kind id passed → ArePassed rows kind id passed'
  passed_more so_far = subst (ArePassed rows kind id) (sym push) (λ n z at. elim (pushed passed y z n at) [
    | inl before ↦ so_far n z before
    | inr last ↦ ap (nth_parent rows kind id) (sym last.0) ∙ here ∙ ap (λ (x : Bor (List ℕ)). Some x.now) last.1
  ])

  pub follows_passed : nth_parent rows kind id (length passed') ≡ parent_of rows kind y.now
  follows_passed = ap (λ (ps : List (Bor (List ℕ))). nth_parent rows kind id (length ps)) push ∙ ap (nth_parent rows kind id) (length_push passed y) ∙ follows_more rows kind id (length passed) y.now here

-- where a test passes at some item it does so at a place
any_place : {X : Type 0} (test : X → Bool) (xs : List X) → list_any test xs ≡ true → (n : ℕ) × (x : X) × (slice_get xs n ≡ Some x) × (test x ≡ true)
any_place test [] is = cc
any_place {X} test (x ∷ xs) is =
    elim (test x) as (λ b. test x ≡ b → (b || list_any test xs) ≡ true → (n : ℕ) × (y : X) × (slice_get (x ∷ xs) n ≡ Some y) × (test y ≡ true)) [
      | true ↦ λ here _. (0, x, refl, here)
      | false ↦ λ _ later. let found = any_place test xs later in (suc found.0, found.1, found.2, found.3)
    ] refl is

-- ids are noted beside those that are known
module _ {S : Type 0} (rows : List Record) (kind : Kind) (notes notes' : HashMap (Bor (List ℕ)) Bool S) (test : List ℕ → Bool) (beside : AreNotedBeside test notes notes') where
  noted : (o : Option Bool) (b : Bool) → (is_some o ≡ true) ⊎ (b ≡ true) → is_some (option_or o (cond b (Some false) None)) ≡ true
  noted None true some = refl
  noted None false (inl some) = some
  noted None false (inr some) = some
  noted (Some known) b some = refl

  -- those and those that were known are known
  beside_some : (q : List ℕ) → IsSome (note_of notes q) ⊎ (test q ≡ true) → IsSome (note_of notes' q)
  beside_some q some = ap is_some (beside q) ∙ noted (note_of notes q) (test q) some

  -- a note that an id is in a cycle was there before
  was : (o : Option Bool) (b : Bool) → option_or o (cond b (Some false) None) ≡ Some true → o ≡ Some true
  was None true here = let never : false ≡ true = cc in cc
  was None false here = cc
  was (Some known) b here = here

  -- those that weren't known are in no cycle
  pub beside_notes : AreNotes rows kind notes → ((q : List ℕ) → note_of notes q ≡ None → test q ≡ true → is_in_cycle rows kind q ≡ false) → AreNotes rows kind notes'
  beside_notes are in_none = record {
    right = λ q known at. right q known (sym (beside q) ∙ at);
    closed = λ q parent at goes.
        let before = are.closed q parent (was (note_of notes q) (test q) (sym (beside q) ∙ at)) goes in
        beside parent ∙ ap (λ o. option_or o (cond (test parent) (Some false) None)) before;
  }
    where
      right : (q : List ℕ) (known : Bool) → option_or (note_of notes q) (cond (test q) (Some false) None) ≡ Some known → known ≡ is_in_cycle rows kind q
      right q known at =
          elim (note_of notes q) as (λ o. note_of notes q ≡ o → option_or o (cond (test q) (Some false) None) ≡ Some known → known ≡ is_in_cycle rows kind q) [
            | None ↦ λ unknown. elim (test q) as (λ b. test q ≡ b → cond b (Some false) None ≡ Some known → known ≡ is_in_cycle rows kind q) [
              | true ↦ λ is here. let value : false ≡ known = cc in sym value ∙ sym (in_none q unknown is)
              | false ↦ λ _ no. cc
            ] refl
            | Some before ↦ λ stood here. are.right q known (stood ∙ here)
          ] refl at

-- one id is noted that is in no cycle
pub one_noted : {S : Type 0} (rows : List Record) (kind : Kind) (notes notes' : HashMap (Bor (List ℕ)) Bool S) (id : List ℕ) → AreNotedBeside (λ q. bytes_eq q id) notes notes' → AreNotes rows kind notes → (note_of notes id ≡ None → is_in_cycle rows kind id ≡ false) → AreNotes rows kind notes'
one_noted rows kind notes notes' id beside are in_none =
    beside_notes rows kind notes notes' (λ q. bytes_eq q id) beside are (λ q unknown tested.
    let same : q ≡ id = (bytes_eq-Decides q id).0 tested in
    ap (is_in_cycle rows kind) same ∙ in_none (ap (note_of notes) (sym same) ∙ unknown))

-- and what is known of it then is right
pub one_known : {S E : Type 0} (rows : List Record) (kind : Kind) (notes : HashMap (Bor (List ℕ)) Bool S) (id : List ℕ) (r : Result Bool E) → OnOk r (AreNotes rows kind notes) → IfOk r (λ known. note_of notes id ≡ Some known) → IfOk r (λ known. known ≡ is_in_cycle rows kind id)
one_known rows kind notes id (Ok known) are at = are.right id known at
one_known rows kind notes id (Err e) are at = tt

abbrev pub among : List (Bor (List ℕ)) → List ℕ → Bool
among ids q = list_any (λ k. bytes_eq q k.now) ids

-- the ids that a chain passes are noted, and the id at which it was left was
module _ {S : Type 0} (rows : List Record) (kind : Kind) (notes notes' : HashMap (Bor (List ℕ)) Bool S) (id : List ℕ) (passed : List (Bor (List ℕ))) (end : Option (List ℕ)) (firsts : ArePassed rows kind id passed) (ends : nth_parent rows kind id (length passed) ≡ end) (well : EndsWell notes end) (beside : AreNotedBeside (among passed) notes notes') where
  pub passed_notes : AreNotes rows kind notes → AreNotes rows kind notes'
  passed_notes are = beside_notes rows kind notes notes' (among passed) beside are (λ q unknown is.
      let found = any_place (λ (k : Bor (List ℕ)). bytes_eq q k.now) passed is in
      let lt = slice_get_within passed found.0 found.1 found.2 in
      let sum : (length passed - found.0) + found.0 ≡ length passed = omega (arith, lt) in
      let same : q ≡ found.1.now = (bytes_eq-Decides q found.1.now).0 found.3 in
      let at : nth_parent rows kind id found.0 ≡ Some q = firsts found.0 found.1 found.2 ∙ ap (λ x. Some x) (sym same) in
      let rest : nth_parent rows kind q (length passed - found.0) ≡ end = sym (nth_from rows kind id q found.0 (length passed - found.0) at) ∙ ap (nth_parent rows kind id) sum ∙ ends in
      not_in_cycle rows kind notes are q (length passed - found.0) end unknown rest well)

  pub passed_known : IsSome (note_of notes' id)
  passed_known = beside_some rows kind notes notes' (among passed) beside id (elim passed as (λ ps. passed ≡ ps → IsSome (note_of notes id) ⊎ (among passed id ≡ true)) [
    | [] ↦ λ none.
        let here : end ≡ Some id = sym ends ∙ ap (λ (ps : List (Bor (List ℕ))). nth_parent rows kind id (length ps)) none in
        inl (subst (EndsWell notes) here well)
    | p ∷ ps ↦ λ some.
        let at : slice_get passed 0 ≡ Some p = ap (λ (qs : List (Bor (List ℕ))). slice_get qs 0) some in
        let first : Some id ≡ Some p.now = firsts 0 p at in
        let same : id ≡ p.now = cc in
        inr (any_passes_from_place (λ (k : Bor (List ℕ)). bytes_eq id k.now) passed 0 p at ((bytes_eq-Decides id p.now).1 same))
  ] refl)

item_at : {X : Type 0} (xs : List X) (n : ℕ) → n < length xs → (x : X) × (slice_get xs n ≡ Some x)
item_at [] n lt = absurd (omega (arith, lt))
item_at (x ∷ xs) zero lt = (x, refl)
item_at (x ∷ xs) (suc n) lt = item_at xs n (omega (arith, lt))

-- a chain came back to its first id, so that all that it passed are in a cycle, and are noted so
module _ {S : Type 0} (rows : List Record) (kind : Kind) (notes notes' : HashMap (Bor (List ℕ)) Bool S) (id : List ℕ) (passed : List (Bor (List ℕ))) (some : 0 < length passed) (firsts : ArePassed rows kind id passed) (back : nth_parent rows kind id (length passed) ≡ Some id) (over : AreNotedOver (among passed) notes notes') where
  place_of : (q : List ℕ) → among passed q ≡ true → (n : ℕ) × (n < length passed) × (nth_parent rows kind id n ≡ Some q)
  place_of q is =
      let found = any_place (λ (k : Bor (List ℕ)). bytes_eq q k.now) passed is in
      let same : q ≡ found.1.now = (bytes_eq-Decides q found.1.now).0 found.3 in
      (found.0, slice_get_within passed found.0 found.1 found.2, firsts found.0 found.1 found.2 ∙ ap (λ x. Some x) (sym same))

  among_at : (n : ℕ) (q : List ℕ) → n < length passed → nth_parent rows kind id n ≡ Some q → among passed q ≡ true
  among_at n q lt here =
      let item = item_at passed n lt in
      let at = firsts n item.0 item.1 in
      let same : q ≡ item.0.now = cc in
      any_passes_from_place (λ (k : Bor (List ℕ)). bytes_eq q k.now) passed n item.0 item.1 ((bytes_eq-Decides q item.0.now).1 same)

  noted_at : (q : List ℕ) → among passed q ≡ true → note_of notes' q ≡ Some true
  noted_at q is = over q ∙ ap (λ b. cond b (Some true) (note_of notes q)) is

  noted_still : (q : List ℕ) → note_of notes q ≡ Some true → note_of notes' q ≡ Some true
  noted_still q was = over q ∙ ap (cond (among passed q) (Some true)) was ∙ either (among passed q)
    where
      either : (b : Bool) → cond b (Some true) (Some true) ≡ Some true
      either true = refl
      either false = refl

  pub lap_notes : AreNotes rows kind notes → AreNotes rows kind notes'
  lap_notes are = record {
    right = λ q known at. elim (among passed q) as (λ b. among passed q ≡ b → cond b (Some true) (note_of notes q) ≡ Some known → known ≡ is_in_cycle rows kind q) [
      | true ↦ λ is here.
          let place = place_of q is in
          let value : true ≡ known = cc in
          sym value ∙ sym (in_cycle_on rows kind id q place.0 place.2 (in_cycle_from_turns rows kind id (length passed) some back))
      | false ↦ λ _ there. are.right q known there
    ] refl (sym (over q) ∙ at);
    closed = λ q parent at goes. elim (among passed q) as (λ b. among passed q ≡ b → cond b (Some true) (note_of notes q) ≡ Some true → note_of notes' parent ≡ Some true) [
      | true ↦ λ is _.
          let place = place_of q is in
          let next : nth_parent rows kind id (suc place.0) ≡ Some parent = ap (option_and_then (parent_of rows kind)) place.2 ∙ goes in
          noted_at parent (elim (cases_lt (suc place.0) (length passed)) [
            | inl lt ↦ among_at (suc place.0) parent lt next
            | inr le ↦
                let lt = place.1 in
                let last : length passed ≡ suc place.0 = omega (arith, le, lt) in
                let first : Some id ≡ Some parent = sym back ∙ ap (nth_parent rows kind id) last ∙ next in
                let same : id ≡ parent = cc in
                subst (λ x. among passed x ≡ true) same (among_at 0 id some refl)
          ])
      | false ↦ λ _ there. noted_still parent (are.closed q parent there goes)
    ] refl (sym (over q) ∙ at);
  }

  pub lap_known : IsSome (note_of notes' id)
  lap_known = ap is_some (noted_at id (among_at 0 id some refl))
