use Rattle.std.proofs.Common.{◌≡◌, ◌<◌, length, set, subst, ap, vec_capacity, vec_len, ◌∙◌, rules}
use Rattle.std.proofs.lemmas.Fn.{always_returns_same}
use Rattle.std.proofs.lemmas.List.{get_or_default}
use Rattle.std.specs.List.{AllWithin}
use Rattle.std.specs.declared.cmp.Ordering.TheVariants.{Less, Greater}
use Rattle.reference_rules.proofs.KeyOrder.{key_exact}
use Rattle.roster_types.specs.Keys.{Key, key_cmp}
use Rattle.roster_values.specs.Kinds.{place_of_kind}
use Rattle.version_core.specs.Changes.{change_key}
use Rattle.version_core.specs.History.{HaveRoom, history_key, past_of}
use Rattle.version_core.specs.declared.history.History.{History}
use Rattle.version_core.proofs.HistoryLemmas.{Ascends-histories}
use Rattle.version_core.proofs.Places.{searchable}
use Rattle.version_core.proofs.RoomLemmas.{on_ok, pasts_of-set, room_at, room_gap}
use Rattle.version_core.proofs.reserved.reserve_entry.Goals as goal

pub returns-in-Ok-clause-same : goal.returns-in-Ok-clause-same
returns-in-Ok-clause-same c =
    let items = c.args.histories.now.items in
    let bound : c.in-Ok.place < length items = rw c.deref.ensures.value at c.in-Ok.ensures.bound in
    let old = c.index_mut.result.now in
    pasts_of-set items c.in-Ok.place c.reserve.new.self (λ d. c.reserve.ensures.entries ∙ ap past_of (c.index_mut.ensures.value ∙ get_or_default items c.in-Ok.place old d bound))

pub returns-in-Ok-clause-ok : goal.returns-in-Ok-clause-ok
returns-in-Ok-clause-ok c =
    let change = c.args.change.now in
    let items = c.args.histories.now.items in
    let slice : c.deref.result.now ≡ items = c.deref.ensures.value in
    let k : Key = (place_of_kind c.kind-kind.result, c.id-id.result.now) in
    let is : k ≡ change_key change = λ i. (place_of_kind (c.kind-kind.ensures.kind i), c.id-id.ensures i) in
    let ascend = Ascends-histories items c.requires.ascend in
    let position = rw slice at (c.in-Ok.ensures.position (λ (history : History). key_cmp (history_key history) k) (always_returns_same _ _ _ (λ a r f called. (search rules, search rules)))) in
    let bound : c.in-Ok.place < length items = rw slice at c.in-Ok.ensures.bound in
    let place = c.in-Ok.place in
    on_ok c.reserve.result (vec_len c.reserve.new.self.entries < vec_capacity c.reserve.new.self.entries) (HaveRoom change (set items place c.reserve.new.self))
    (λ room. room_at change items place c.reserve.new.self bound ascend (λ d. key_exact _ _ (position d) ∙ is) room) c.reserve.ensures.ok

pub returns-in-Err-clause-ok : goal.returns-in-Err-clause-ok
returns-in-Err-clause-ok c =
    let change = c.args.change.now in
    let items = c.args.histories.now.items in
    let slice : c.deref.result.now ≡ items = c.deref.ensures.value in
    let k : Key = (place_of_kind c.kind-kind.result, c.id-id.result.now) in
    let is : k ≡ change_key change = λ i. (place_of_kind (c.kind-kind.ensures.kind i), c.id-id.ensures i) in
    let ascend = Ascends-histories items c.requires.ascend in
    let place = c.in-Err.field-0 in
    let parted = (rw slice at (c.in-Err.ensures.position (λ (history : History). key_cmp (history_key history) k) (always_returns_same _ _ _ (λ a r f called. (search rules, search rules))))) (searchable history_key items k ascend) in
    let bound = rw slice at c.in-Err.ensures.bound in
    let below = subst (λ (j : Key). AllWithin (λ (history : History). key_cmp (history_key history) j ≡ Less) items 0 place) is parted.0 in
    let above = subst (λ (j : Key). AllWithin (λ (history : History). key_cmp (history_key history) j ≡ Greater) items place (length items)) is parted.1 in
    room_gap change items place bound below above
