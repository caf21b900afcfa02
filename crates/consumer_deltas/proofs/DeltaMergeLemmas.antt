-- What differs of a kind, merged with what is held of it.
use Rattle.std.proofs.Common.{◌≡◌, ◌<◌, ◌⊎◌, ⊎_elim, ℕ, List, [], length, get_or, Option, None, Some, sym, ap, subst}
use Rattle.std.proofs.Common.{◌∙◌}
use Rattle.std.proofs.lemmas.Option.{none-some, same_Some}
use Rattle.std.specs.Prelude.{IfSome}
use Rattle.std.specs.Option.{option_map_or}
use Rattle.consumer_sync.specs.Staging.{IsBroken, Taking}
use Rattle.exchange_link.specs.declared.answer.SyncAnswer.{SyncAnswer}
use Rattle.exchange_link.specs.declared.answer.SyncAnswer.TheVariants as answer
use Rattle.keeper_memory.specs.copy.Copies.{Copy, Held, held_list}
use Rattle.keeper_memory.specs.declared.copy.state.StageState.{StageState}
use Rattle.roster_types.specs.Records.{Record}
use Rattle.roster_values.specs.Kinds.{place_of_kind}
use Rattle.roster_values.specs.declared.kind.Kind.{Kind}
use Rattle.row_deltas.specs.Deltas.{merged}
use Rattle.version_core.specs.Version.{row_limit}
use Rattle.consumer_deltas.specs.DeltaJudging.{Sofar}
use Rattle.consumer_deltas.specs.DeltaMerging.{Merges, StagesList, Unmerged, merged_with, rest_of}
use Rattle.consumer_deltas.specs.DeltaMerging.Merges.{Fails, Merged}
use Rattle.consumer_deltas.specs.DeltaMerging.StagesList.{Staged, TooMany}
use Rattle.consumer_deltas.specs.DeltaMerging.Unmerged.{Broke, TooMany as IsTooMany, Wants}
use Rattle.consumer_deltas.specs.DeltaStaging.{Stages}
use Rattle.consumer_deltas.specs.DeltaStaging.Stages.{Opens, Part, Stays, Whole}

-- ---- what is held

stages_held : (k : Taking) (token : List ℕ) (result : Option SyncAnswer) (before after : Copy) → Stages k token result before after → after.held ≡ before.held
stages_held k token result before after (Whole r e) = ap (λ (c : Copy). c.held) e
stages_held k token result before after (Part rows front b e) = ap (λ (c : Copy). c.held) e
stages_held k token result before after (Opens b e) = ap (λ (c : Copy). c.held) e
stages_held k token result before after (Stays b e) = ap (λ (c : Copy). c.held) e

list_held : (kind : Kind) (stage : Option StageState) (pin : ℕ) (token : List ℕ) (rows : List Record) (result : Option SyncAnswer) (before after : Copy) → StagesList kind stage pin token rows result before after → after.held ≡ before.held
list_held kind stage pin token rows result before after (Staged few s) = stages_held (rest_of stage pin rows) token result before after s
list_held kind stage pin token rows result before after (TooMany many is e) = ap (λ (c : Copy). c.held) e

pub merges_held : (kind : Kind) (entries : Sofar) (stage : Option StageState) (pin : ℕ) (token : List ℕ) (result : Option SyncAnswer) (before after : Copy) → Merges kind entries stage pin token result before after → before.held ≡ after.held
merges_held kind entries stage pin token result before after (Merged s) = sym (list_held kind stage pin token (merged_with kind entries before) result before after s)
merges_held kind entries stage pin token result before after (Fails b e) = ap (λ (c : Copy). c.held) (sym e)

pub same_list : (kind : Kind) (one other : Copy) → one.held ≡ other.held → held_list one kind ≡ held_list other kind
same_list kind one other e = ap (λ (o : Option Held). option_map_or (λ (h : Held). get_or h.lists (place_of_kind kind) []) o []) e

-- ---- the merged rows

-- the rows that came of the held ones are the held ones with the entries
module _ (kind : Kind) (entries : Sofar) (held rows : List Record) (is : rows ≡ merged held entries.puts entries.gone) where
  is_merged : (c : Copy) → held ≡ held_list c kind → rows ≡ merged_with kind entries c
  is_merged c shown = is ∙ ap (λ l. merged l entries.puts entries.gone) shown

  module _ (stage : Option StageState) (pin : ℕ) (token : List ℕ) (result : Option SyncAnswer) where
    pub merges_staged : (before after : Copy) → held ≡ held_list before kind → StagesList kind stage pin token rows result before after → Merges kind entries stage pin token result before after
    merges_staged before after shown staged =
        Merged (subst (λ l. StagesList kind stage pin token l result before after) (is_merged before shown) staged)

    -- they are as many in the copy that stands afterwards
    pub merged_many : (before after : Copy) → held ≡ held_list before kind → StagesList kind stage pin token rows result before after → length rows ≡ length (merged_with kind entries after)
    merged_many before after shown staged =
        ap length (is_merged after (shown ∙ sym (same_list kind after before (list_held kind stage pin token rows result before after staged))))

-- why a list isn't staged
pub ends_staged : (broke : Type 0) (copies : Copy → Type 0) (kind : Kind) (entries : Sofar) (n : ℕ) (result : Option SyncAnswer) → (result ≡ Some answer.KeeperFault → broke) → ((c : Copy) → copies c → n ≡ length (merged_with kind entries c))
    → (result ≡ None) ⊎ (IsBroken result ⊎ ((row_limit < n) × (result ≡ Some (answer.TooLarge kind n)))) → IfSome result (Unmerged broke copies kind entries)
ends_staged broke copies kind entries n None rose many x = tt
ends_staged broke copies kind entries n (Some a) rose many x = ⊎_elim
    (λ (none : Some a ≡ None). absurd (none-some a (sym none)))
    (λ y. ⊎_elim
    (λ (b : IsBroken (Some a)). ⊎_elim (λ (e : Some a ≡ Some answer.KeeperFault). Broke (rose e) (same_Some _ _ e)) (λ (e : Some a ≡ Some answer.NoMemory). Wants (same_Some _ _ e)) b)
    (λ (t : (row_limit < n) × (Some a ≡ Some (answer.TooLarge kind n))). IsTooMany n t.0 many (same_Some _ _ t.1)) y)
    x
