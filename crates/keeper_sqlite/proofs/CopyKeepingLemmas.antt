-- Stores whose items keep a copy, before and after a call.
use Rattle.std.proofs.Common.{◌≡◌, ◌<◌, ◌≤◌, ◌^◌, ℕ, List, [], ◌∷◌, get_or, Result, Ok, Err, inl, inr, sym, ap, subst}
use Rattle.std.proofs.Common.{◌∙◌, arith}
use Rattle.roster_base.specs.Faults.{CountsFailure}
use Rattle.roster_base.specs.declared.keeper.KeeperError.{KeeperError}
use Rattle.roster_base.specs.declared.keeper.KeeperError.TheVariants.{Failed, NoMemory}
use Rattle.item_maps.specs.Edits.{after}
use Rattle.item_maps.specs.Items.{Items, listed, no_items}
use Rattle.item_maps.specs.declared.item.Edit.{Edit}
use Rattle.keeper_memory.specs.copy.Changes.{CanChange, Commits, copy_after}
use Rattle.keeper_memory.specs.copy.Copies.{Copy}
use Rattle.keeper_memory.specs.copy.HeldCopy.{empty_copy}
use Rattle.keeper_memory.specs.declared.copy.change.CopyChange.{CopyChange}
use Rattle.hub_format.proofs.Orders.{same_number}
use Rattle.hub_format.specs.Format.{Entry, first_format, format_entry, written_format}
use Rattle.copy_format.proofs.Changing.{Keep-change, first_kept, turned_kept}
use Rattle.copy_format.proofs.Unique.{kept_once}
use Rattle.copy_format.proofs.CopyListings.{format_told}
use Rattle.copy_format.specs.Edits.{first_edits, turn_edits}
use Rattle.copy_format.specs.Format.{Keep, KeepOne}
use Rattle.keeper_sqlite.proofs.HubKeepingLemmas.{keeps_on, none}
use Rattle.keeper_sqlite.proofs.TellingLemmas.{Came}
use Rattle.keeper_sqlite.specs.hub.Keeping.{Keeps, Stay}
use Rattle.keeper_sqlite.specs.copy.Keeping.{AreEditsOf, HasCopy, KeepEither, KeepOrNew}
use Rattle.copy_format.specs.Areas.{format_area}

pub copy_of : (stand : Items → Type 0) (c : Copy) (this : Keeps Keep stand c) → HasCopy stand this.kept.side c
copy_of stand c this = record { items = this.items; stands = this.stands; stored = this.kept.stored; is = this.kept.is; fit = this.kept.fit }

pub copy_stays : (old new : Items → Type 0) (side : ℕ) (c : Copy) → Stay old new → HasCopy old side c → HasCopy new side c
copy_stays old new side c stay has = record { items = has.items; stands = stay has.items has.stands; stored = has.stored; is = has.is; fit = has.fit }

pub keeps_or_new : (stand : Items → Type 0) (c : Copy) → Keeps Keep stand c → Keeps KeepOrNew stand c
keeps_or_new stand c this = record { items = this.items; stands = this.stands; kept = inl this.kept }

pub keeps_either : (stand : Items → Type 0) (c : Copy) → Keeps Keep stand c → Keeps KeepEither stand c
keeps_either stand c this = record { items = this.items; stands = this.stands; kept = inl this.kept }

-- what a store that was made ready keeps, a read of it keeps
module _ (ready new : Items → Type 0) (c : Copy) (this : Keeps Keep ready c) (stays : Stay ready new) where
  pub read_ready : Keeps Keep new c
  read_ready = keeps_on Keep ready new c this (stays this.items this.stands)

  pub read_kept : Keeps KeepOrNew new c
  read_kept = keeps_or_new new c read_ready

  pub read_whole : Keeps KeepEither new c
  read_whole = keeps_either new c read_ready

pub some_kept : (items : Items) (c : Copy) → KeepEither items c → KeepOrNew items c
some_kept items c (inl kept) = inl kept
some_kept items c (inr old) = inr (inl old)

pub some_keeps : (stand : Items → Type 0) (c : Copy) → Keeps KeepEither stand c → Keeps KeepOrNew stand c
some_keeps stand c this = record { items = this.items; stands = this.stands; kept = some_kept this.items c this.kept }

-- the number of the format
second : (items : Items) (c : Copy) → Keep items c → listed format_area [] (0 ∷ []) items ≡ format_entry written_format ∷ []
second items c keep = format_told 2 items keep.stored.format

first : (items : Items) (c : Copy) → KeepOne items c → listed format_area [] (0 ∷ []) items ≡ format_entry first_format ∷ []
first items c keep = format_told 1 items keep.stored.format

-- where neither format is told, there are no items
pub is_new : (items : Items) (c : Copy) (told : List Entry) → KeepOrNew items c → told ≡ listed format_area [] (0 ∷ []) items → (told ≡ format_entry first_format ∷ [] → ⊥) → (told ≡ format_entry written_format ∷ [] → ⊥)
    → (items ≡ no_items) × (c ≡ empty_copy)
is_new items c told (inl kept) is one two = absurd (two (is ∙ second items c kept))
is_new items c told (inr (inl old)) is one two = absurd (one (is ∙ first items c old))
is_new items c told (inr (inr new)) is one two = new

-- where format 2 isn't told, but some format, they keep the copy in format 1
pub is_old : (items : Items) (c : Copy) (told : List Entry) → KeepOrNew items c → told ≡ listed format_area [] (0 ∷ []) items → (told ≡ [] → ⊥) → (told ≡ format_entry written_format ∷ [] → ⊥) → KeepOne items c
is_old items c told (inl kept) is some two = absurd (two (is ∙ second items c kept))
is_old items c told (inr (inl old)) is some two = old
is_old items c told (inr (inr new)) is some two = absurd (some (is ∙ none items new.0))

-- and where format 1 isn't, in format 2
pub is_kept : (items : Items) (c : Copy) (told : List Entry) → KeepOrNew items c → told ≡ listed format_area [] (0 ∷ []) items → (told ≡ [] → ⊥) → (told ≡ format_entry first_format ∷ [] → ⊥) → Keep items c
is_kept items c told (inl kept) is some one = kept
is_kept items c told (inr (inl old)) is some one = absurd (one (is ∙ first items c old))
is_kept items c told (inr (inr new)) is some one = absurd (some (is ∙ none items new.0))

not_two : (items : Items) (c : Copy) → Keep items c → items ≡ no_items → ⊥
not_two items c kept is = let told : [] ≡ format_entry written_format ∷ [] = sym (none items is) ∙ second items c kept in cc

not_one : (items : Items) (c : Copy) → KeepOne items c → items ≡ no_items → ⊥
not_one items c old is = let told : [] ≡ format_entry first_format ∷ [] = sym (none items is) ∙ first items c old in cc

not_both : (items : Items) (c other : Copy) → Keep items c → KeepOne items other → ⊥
not_both items c other kept old =
    let told : format_entry written_format ∷ [] ≡ format_entry first_format ∷ [] = sym (second items c kept) ∙ first items other old in
    let same = same_number 2 1 (omega arith) (omega arith) (ap (λ (es : List Entry). (get_or es 0 ([], [])).1) told) in
    omega (arith, same)

-- items keep one copy at most, and no items keep the one that holds nothing
pub one_copy : (items : Items) (c other : Copy) → KeepOrNew items c → KeepOrNew items other → c ≡ other
one_copy items c other (inl a) (inl b) = kept_once items c other a b
one_copy items c other (inl a) (inr (inl b)) = absurd (not_both items c other a b)
one_copy items c other (inl a) (inr (inr b)) = absurd (not_two items c a b.0)
one_copy items c other (inr (inl a)) (inl b) = absurd (not_both items other c b a)
one_copy items c other (inr (inl a)) (inr (inl b)) = kept_once (after turn_edits items) c other (turned_kept items c a) (turned_kept items other b)
one_copy items c other (inr (inl a)) (inr (inr b)) = absurd (not_one items c a b.0)
one_copy items c other (inr (inr a)) (inl b) = absurd (not_two items other b a.0)
one_copy items c other (inr (inr a)) (inr (inl b)) = absurd (not_one items other b a.0)
one_copy items c other (inr (inr a)) (inr (inr b)) = a.1 ∙ sym b.1

-- the first edits make a new store one that keeps the copy that holds nothing
pub first_keeps : (c : Copy) (goes : List Edit) (items : Items) → goes ≡ first_edits → (items ≡ no_items) × (c ≡ empty_copy) → Keep (after goes items) c
first_keeps c goes items is none =
    let start : Keep (after first_edits no_items) c = subst (Keep (after first_edits no_items)) (sym none.1) first_kept in
    subst (λ m. Keep m c) (sym (λ i. after (is i) (none.0 i))) start

pub made_new : (new : Items → Type 0) (c : Copy) (goes : List Edit) (items : Items) → goes ≡ first_edits → (items ≡ no_items) × (c ≡ empty_copy) → new (after goes items) → Keeps Keep new c
made_new new c goes items is none stands = record { items = after goes items; stands = stands; kept = first_keeps c goes items is none }

-- a store of format 1 keeps the same copy in format 2
pub turned_keeps : (c : Copy) (goes : List Edit) (items : Items) → goes ≡ turn_edits → KeepOne items c → Keep (after goes items) c
turned_keeps c goes items is old = subst (λ es. Keep (after es items) c) (sym is) (turned_kept items c old)

pub made_turned : (new : Items → Type 0) (c : Copy) (goes : List Edit) (items : Items) → goes ≡ turn_edits → KeepOne items c → new (after goes items) → Keeps Keep new c
made_turned new c goes items is old stands = record { items = after goes items; stands = stands; kept = turned_keeps c goes items is old }

-- the edits of a change lead to the copy after it
pub change_keeps : (items : Items) (c : Copy) (change : CopyChange) (kept : Keep items c) (goes : List Edit) → CanChange change c → AreEditsOf kept.side c change goes → Keep (after goes items) (copy_after change c)
change_keeps items c change kept goes can are = subst (λ es. Keep (after es items) (copy_after change c)) (sym are.0) (Keep-change items c change kept can are.1)

pub changed : (old new : Items → Type 0) (c : Copy) (change : CopyChange) (this : Keeps Keep old c) (goes : List Edit) → CanChange change c → AreEditsOf this.kept.side c change goes → new (after goes this.items)
    → Keeps Keep new (copy_after change c)
changed old new c change this goes can are stands = record {
  items = after goes this.items;
  stands = stands;
  kept = change_keeps this.items c change this.kept goes can are;
}

-- what became of a change
pub copy_came : (change : CopyChange) (r : Result (Unit {0}) KeeperError) (before now : Copy) → Came (copy_after change) r before now → Commits change r before now
copy_came change (Ok done) before now is = is
copy_came change (Err Failed) before now is = is
copy_came change (Err NoMemory) before now is = is

-- a count of failures doesn't fall
pub counts_later : {T : Type 0} (before now : ℕ) (r : Result T KeeperError) → before < 2 ^ 64 → CountsFailure before now r → before ≤ now
counts_later before now (Ok x) fits is = omega (arith, is)
counts_later before now (Err NoMemory) fits is = omega (arith, is)
counts_later before now (Err Failed) fits is = omega (arith, is)
