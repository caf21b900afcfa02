-- The first entry above a number, by its item.
use Rattle.std.proofs.Common.{◌≡◌, ◌<◌, ◌+◌, ◌^◌, ℕ, List, [], ◌∷◌, true, false, Option, None, Some, refl, sym, ap, ◌∙◌}
use Rattle.std.proofs.Common.{arith}
use Rattle.std.specs.Prelude.{◌-◌, IfSome, IsSomeAnd, if◌then◌else◌, nat_lt, option_map, slice_get}
use Rattle.std.specs.List.{AllByRecursion}
use Rattle.std.proofs.lemmas.Bool.Decides.{nat_tests}
use Rattle.std.proofs.lemmas.Option.{same_Some}
use Rattle.keeper_memory.specs.copy.Copies.{Copy, IsCopy, Stage, entry_after, first_unsettled}
use Rattle.keeper_memory.specs.copy.States.{state_of}
use Rattle.keeper_memory.specs.declared.copy.entry.OutEntry.{OutEntry}
use Rattle.keeper_memory.specs.declared.copy.state.StageState.{StageState}
use Rattle.keeper_memory.specs.declared.copy.state.TheConstants.{LAST}
use Rattle.hub_format.specs.Pieces.{number}
use Rattle.item_maps.specs.Edits.{entry_of}
use Rattle.item_maps.specs.Items.{Items, listed}
use Rattle.item_maps.specs.declared.item.Item.{Item}
use Rattle.copy_format.proofs.CopyListings.{all_out, entry_told, unsettled_above}
use Rattle.copy_format.proofs.Changing.{small_numbers}
use Rattle.copy_format.specs.Format.{IsOut, out_entry}
use Rattle.keeper_sqlite.specs.copy.Keeping.{HasCopy}
use Rattle.copy_format.specs.Areas.{outbox_area}

-- an entry above a number
abbrev pub IsAbove : ℕ → OutEntry → Type 0
IsAbove after entry = IsOut entry × (after < entry.number)

found_is : (after : ℕ) (entries : List OutEntry) → AllByRecursion IsOut entries → IfSome (entry_after after entries) (IsAbove after)
found_is after [] all = tt
found_is after (x ∷ xs) all = elim (nat_lt after x.number) as (λ b. nat_lt after x.number ≡ b → IfSome (if b then Some x else entry_after after xs) (IsAbove after)) [
  | true ↦ λ is. (all.0, (let lt : after < x.number = grind (arith, nat_tests, is) in lt))
  | false ↦ λ is. found_is after xs all.1
] refl

none_found : (o : Option OutEntry) → None ≡ option_map out_entry o → None ≡ o
none_found None is = refl
none_found (Some e) is = absurd cc

module _ (stand : Items → Type 0) (side : ℕ) (c : Copy) (has : HasCopy stand side c) (after : ℕ) (fits : after + 1 < 2 ^ 64) (item : Option Item)
    (first : option_map entry_of item ≡ slice_get (listed outbox_area (number (after + 1)) (number (LAST + 1)) has.items) 0) where
  told : option_map entry_of item ≡ option_map out_entry (entry_after after c.entries)
  told = first ∙ entry_told side c has.items has.stored has.is has.fit after fits

  -- no item, no entry
  pub no_item : item ≡ None → None ≡ entry_after after c.entries
  no_item none = none_found (entry_after after c.entries) (ap (option_map entry_of) (sym none) ∙ told)

  -- an item is the entry's
  pub one_item : (it : Item) (read : OutEntry) → item ≡ Some it → ((entry : OutEntry) → IsOut entry → after < entry.number → entry_of it ≡ out_entry entry → read ≡ entry) → Some read ≡ entry_after after c.entries
  one_item it read some shows = go (entry_after after c.entries) (found_is after c.entries (all_out c has.is has.fit)) (ap (option_map entry_of) (sym some) ∙ told)
    where
      go : (o : Option OutEntry) → IfSome o (IsAbove after) → Some (entry_of it) ≡ option_map out_entry o → Some read ≡ o
      go None is same = absurd cc
      go (Some entry) is same = ap Some (shows entry is.0 is.1 (same_Some _ _ same))

-- the stage whose small part is this
pub some_stage : (o : Option Stage) (st : StageState) → Some st ≡ option_map state_of o → (s : Stage) × (o ≡ Some s) × (st ≡ state_of s)
some_stage None st is = absurd cc
some_stage (Some s) st is = (s, refl, cc)

-- the entry that is read is the first that isn't settled
pub settle_first : (c : Copy) (n : ℕ) (entry : OutEntry) → IsCopy c → IsSomeAnd (first_unsettled c.entries) (λ e. e.number ≡ n) → Some entry ≡ entry_after (n - 1) c.entries → first_unsettled c.entries ≡ Some entry
settle_first c n entry is can read = go (first_unsettled c.entries) refl can
  where
    go : (o : Option OutEntry) → first_unsettled c.entries ≡ o → IsSomeAnd o (λ e. e.number ≡ n) → first_unsettled c.entries ≡ Some entry
    go None first some = absurd some
    go (Some e) first some =
        first ∙ sym (read ∙ ap (λ k. entry_after (k - 1) c.entries) (sym some) ∙ unsettled_above 0 c.entries e (small_numbers c is) is.entries.rise first)
