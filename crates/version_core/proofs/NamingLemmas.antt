-- Entries of an index in their order.
use Rattle.std.proofs.Common.{◌≡◌, ◌<◌, ◌≤◌, ℕ, true, false, not, List, [], ◌∷◌, Option, None, Some, get_or, length}
use Rattle.std.proofs.Common.{refl, sym, ap, ◌∙◌}
use Rattle.std.proofs.lemmas.Bool.{not-true}
use Rattle.std.proofs.lemmas.Cmp.{nat_cmp_total, nat_list_cmp_total, on_total, then_total, tied_back, upto}
use Rattle.std.proofs.lemmas.List.Sorted.{ranks_by, sorted_far}
use Rattle.std.specs.Cmp.{IsTotalOrder}
use Rattle.std.specs.Cmp.Lexicographic.{slice_cmp}
use Rattle.std.specs.List.Sorted.{IsPartitionedBy}
use Rattle.std.specs.Ordering.{is_eq, is_gt, is_lt, nat_cmp, ordering_reverse, ordering_then}
use Rattle.std.specs.declared.cmp.Ordering.{Ordering}
use Rattle.std.specs.declared.cmp.Ordering.TheVariants.{Less, Equal, Greater}
use Rattle.reference_rules.proofs.KeyOrder.{equal_from_is_eq}
use Rattle.roster_types.specs.Keys.{is_after}
use Rattle.version_core.specs.RefIndex.{AreInOrder, Named, Naming, is_from, is_of, named_by, named_cmp, naming_cmp}
use Rattle.version_core.specs.RefIndex.{naming_of}
use Rattle.version_core.specs.declared.ref_index.RefEntry.{RefEntry}

pub named_total : IsTotalOrder named_cmp
named_total = then_total (then_total (on_total (λ (n : Named). n.0) nat_cmp_total) (on_total (λ (n : Named). n.1) nat_cmp_total)) (on_total (λ (n : Named). n.2) nat_list_cmp_total)

pub naming_total : IsTotalOrder naming_cmp
unfolding naming_cmp
naming_total = then_total (on_total (λ (n : Naming). n.0) named_total) (on_total (λ (n : Naming). n.1) nat_list_cmp_total)

pub gt_reverse : (o : Ordering) → is_gt (ordering_reverse o) ≡ is_lt o
gt_reverse Less = refl
gt_reverse Equal = refl
gt_reverse Greater = refl

pub lt_reverse : (o : Ordering) → is_lt (ordering_reverse o) ≡ is_gt o
lt_reverse Less = refl
lt_reverse Equal = refl
lt_reverse Greater = refl

gt_is_lt : (a b : Naming) → is_gt (naming_cmp a b) ≡ is_lt (naming_cmp b a)
gt_is_lt a b = ap is_gt (naming_total.antisymm a b) ∙ gt_reverse (naming_cmp b a)

ids_turned : (a b : List ℕ) → is_lt (slice_cmp nat_cmp a b) ≡ is_gt (slice_cmp nat_cmp b a)
ids_turned a b = ap is_lt (nat_list_cmp_total.antisymm a b) ∙ lt_reverse (slice_cmp nat_cmp b a)

-- no text is below the empty one
none_below : (id : List ℕ) → is_lt (slice_cmp nat_cmp id []) ≡ false
none_below [] = refl
none_below (x ∷ id) = refl

named_same : (named : Named) (entry : RefEntry) → is_of named entry ≡ true → named_cmp (named_by entry) named ≡ Equal
unfolding is_of
named_same named entry of = equal_from_is_eq _ of

-- an entry of a named id stands by its own id
by_id : (named : Named) (id : List ℕ) (entry : RefEntry) → is_of named entry ≡ true → naming_cmp (naming_of entry) (named, id) ≡ slice_cmp nat_cmp entry.id id
unfolding naming_cmp
by_id named id entry of = ap (λ o. ordering_then o (slice_cmp nat_cmp entry.id id)) (named_same named entry of)

pub after_from : (named : Named) (after : Option (List ℕ)) (entry : RefEntry) → is_of named entry ≡ true → is_from named after entry ≡ is_after after entry.id
unfolding is_from
after_from named None entry of = ap (λ o. not (is_lt o)) (by_id named [] entry of) ∙ ap not (none_below entry.id)
after_from named (Some after) entry of = ap is_gt (by_id named after entry of) ∙ sym (ids_turned after entry.id)

not_less : (o s : Ordering) → is_gt (ordering_then o s) ≡ true → is_lt o ≡ false
not_less Less s e = cc
not_less Equal s e = refl
not_less Greater s e = refl

not_less_either : (o s : Ordering) → not (is_lt (ordering_then o s)) ≡ true → is_lt o ≡ false
not_less_either Less s e = cc
not_less_either Equal s e = refl
not_less_either Greater s e = refl

-- an entry from a named id on isn't below it
not_below_named : (named : Named) (after : Option (List ℕ)) (entry : RefEntry) → is_from named after entry ≡ true → is_lt (named_cmp (named_by entry) named) ≡ false
unfolding is_from naming_cmp
not_below_named named None entry from = not_less_either (named_cmp (named_by entry) named) (slice_cmp nat_cmp entry.id []) from
not_below_named named (Some after) entry from = not_less (named_cmp (named_by entry) named) (slice_cmp nat_cmp entry.id after) from

greater_from : (o : Ordering) → is_lt o ≡ false → is_eq o ≡ false → o ≡ Greater
greater_from Less l e = cc
greater_from Equal l e = cc
greater_from Greater l e = refl

module _ (entries : List RefEntry) (order : AreInOrder entries) where
  -- no entry is below one before it
  not_below : (i j : ℕ) (d : RefEntry) → i ≤ j → j < length entries → is_lt (naming_cmp (naming_of (get_or entries j d)) (naming_of (get_or entries i d))) ≡ false
  not_below i j d le len = sorted_far (λ a b. is_lt (naming_cmp (naming_of a) (naming_of b))) (ranks_by naming_total naming_of) entries order i j d le len

  -- a binary search may look for the first from a named id on
  pub parted : (named : Named) (after : Option (List ℕ)) → IsPartitionedBy (λ entry. not (is_from named after entry)) entries
  unfolding is_from
  parted named None i j d le len before =
      let xi = naming_of (get_or entries i d) in
      let xj = naming_of (get_or entries j d) in
      let low = gt_is_lt xi xj ∙ not_below i j d le len in
      elim (is_lt (naming_cmp xi (named, []))) as (λ b. is_lt (naming_cmp xi (named, [])) ≡ b → not (not b) ≡ true) [
        | true ↦ λ _. refl
        | false ↦ λ from.
            let above = upto naming_total (named, []) xi xj (gt_is_lt (named, []) xi ∙ from) low in
            let e : not (not (is_gt (naming_cmp (named, []) xj))) ≡ true = ap (λ b. not (not b)) (gt_is_lt (named, []) xj) ∙ before in
            cc
      ] refl
  parted named (Some after) i j d le len before =
      let xi = naming_of (get_or entries i d) in
      let xj = naming_of (get_or entries j d) in
      let low = gt_is_lt xi xj ∙ not_below i j d le len in
      ap not (upto naming_total xi xj (named, after) low (not-true _ before))

  -- behind one that is above a named id there is none of it
  pub past : (named : Named) (after : Option (List ℕ)) (i j : ℕ) (d : RefEntry) → i ≤ j → j < length entries → is_from named after (get_or entries i d) ≡ true → is_of named (get_or entries i d) ≡ false → is_of named (get_or entries j d) ≡ false
  unfolding is_of naming_cmp
  past named after i j d le len from other =
      let ki = named_by (get_or entries i d) in
      let kj = named_by (get_or entries j d) in
      let above = greater_from (named_cmp ki named) (not_below_named named after (get_or entries i d) from) other in
      elim (is_eq (named_cmp kj named)) as (λ b. is_eq (named_cmp kj named) ≡ b → b ≡ false) [
        | true ↦ λ of.
            let less : named_cmp kj ki ≡ Less = named_total.congr kj named ki (equal_from_is_eq _ of) ∙ named_total.antisymm named ki ∙ ap ordering_reverse above in
            let e = ap (λ o. is_lt (ordering_then o (slice_cmp nat_cmp (get_or entries j d).id (get_or entries i d).id))) less in
            let f = not_below i j d le len in
            cc
        | false ↦ λ _. refl
      ] refl

  -- of one named id the ids rise
  pub rise : (named : Named) (i j : ℕ) (d : RefEntry) → i ≤ j → j < length entries → is_of named (get_or entries i d) ≡ true → is_of named (get_or entries j d) ≡ true → is_lt (slice_cmp nat_cmp (get_or entries j d).id (get_or entries i d).id) ≡ false
  unfolding naming_cmp
  rise named i j d le len of_i of_j =
      let ki = named_by (get_or entries i d) in
      let kj = named_by (get_or entries j d) in
      let tied : named_cmp kj ki ≡ Equal = named_total.congr kj named ki (named_same named (get_or entries j d) of_j) ∙ tied_back named_total ki named (named_same named (get_or entries i d) of_i) in
      ap is_lt (sym (ap (λ o. ordering_then o (slice_cmp nat_cmp (get_or entries j d).id (get_or entries i d).id)) tied)) ∙ not_below i j d le len
