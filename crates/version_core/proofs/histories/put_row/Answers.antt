use Rattle.std.proofs.Common.{◌≡◌, ℕ, ◌∷◌, ◌++◌, [], ◌<◌, ◌≤◌, drop, get_or, length, Err, List, reverse, sym, subst, ap}
use Rattle.std.proofs.Common.{vec_capacity, vec_len, ◌∙◌, arith, rules}
use Rattle.std.proofs.lemmas.Fn.{always_returns_same}
use Rattle.std.proofs.lemmas.List.{reverse-append}
use Rattle.std.specs.List.{AllWithin}
use Rattle.std.specs.List.Sorted.{IsBinarySearchResult}
use Rattle.std.specs.declared.cmp.Ordering.TheVariants.{Less, Equal, Greater}
use Rattle.reference_rules.proofs.KeyOrder.{key_exact, key_total}
use Rattle.roster_types.specs.Keys.{Key, key_cmp}
use Rattle.roster_values.specs.Kinds.{place_of_kind}
use Rattle.version_core.specs.Changes.{change_key}
use Rattle.version_core.specs.History.{AreAbove, AreFresh, ArePasts, HaveRoom, PutsRow, history_key, parts_of, past_key}
use Rattle.version_core.specs.History.{past_of, pasts_of}
use Rattle.version_core.specs.declared.history.History.{History}
use Rattle.version_core.specs.declared.history.FreshEntries.{FreshEntries}
use Rattle.version_core.specs.declared.row_change.RowChange.{RowChange}
use Rattle.version_core.proofs.HistoryLemmas.{Ascends-histories, all_at, all_from, all_take}
use Rattle.version_core.proofs.PartsLemmas.{all_set, ascends_first, puts_grown, puts_new}
use Rattle.version_core.proofs.Places.{less_from_greater, searchable}
use Rattle.version_core.proofs.PutLemmas.{all_append, key_same, pushed_key}
use Rattle.version_core.proofs.histories.put_row.Goals as goal

apart : Less ≡ Equal → ⊥
apart equal = cc

-- what `HaveRoom` says of each history
abbrev HasRoom : RowChange → History → Type 0
HasRoom change history = history_key history ≡ change_key change → vec_len history.entries < vec_capacity history.entries

-- what `AreAbove` says of each history
abbrev IsAbove : RowChange → History → Type 0
IsAbove change history = key_cmp (change_key change) (history_key history) ≡ Less

-- the history stands at the place, and is of the row's kind and id
record Holds (change : RowChange) (histories : List History) (place : ℕ) (history : History) : Type 0 where
  pub bound : place < length histories
  pub value : history ≡ get_or histories place history
  pub same : key_cmp (history_key history) (change_key change) ≡ Equal

-- the histories before the gap are below the row, and those from it on are above
record Parts (change : RowChange) (histories : List History) (gap : ℕ) : Type 0 where
  pub bound : gap ≤ length histories
  pub below : AllWithin (λ history. key_cmp (history_key history) (change_key change) ≡ Less) histories 0 gap
  pub above : AllWithin (λ history. key_cmp (history_key history) (change_key change) ≡ Greater) histories gap (length histories)

-- what a search for a row's kind and id gives
module _ (change : RowChange) (searched histories : List History) (alike : searched ≡ histories) (key : Key) (is : key ≡ change_key change) (place : ℕ) where
  -- the place found holds the key
  found_holds : (history : History) → history ≡ get_or histories place history → place < length searched
      → ((default : History) → key_cmp (history_key (get_or searched place default)) key ≡ Equal) → Holds change histories place history
  found_holds history value bound position = record {
    bound = subst (λ (those : List History). place < length those) alike bound;
    value = value;
    same =
        let there : key_cmp (history_key (get_or histories place history)) key ≡ Equal = subst (λ (those : List History). key_cmp (history_key (get_or those place history)) key ≡ Equal) alike (position history) in
        subst (λ (other : History). key_cmp (history_key other) (change_key change) ≡ Equal) (sym value) (subst (λ (other : Key). key_cmp (history_key (get_or histories place history)) other ≡ Equal) is there);
  }

  -- the gap parts the histories
  gap_parts : (spare : List History) → ArePasts (parts_of histories spare) → place ≤ length searched
      → IsBinarySearchResult (λ history. key_cmp (history_key history) key) searched (Err place) → Parts change histories place
  gap_parts spare are bound position =
      let ascend = Ascends-histories histories (ascends_first (pasts_of histories) (pasts_of (reverse spare)) are.ascend) in
      let parted = subst (λ (those : List History). IsBinarySearchResult (λ history. key_cmp (history_key history) key) those (Err place)) alike position (searchable history_key histories key ascend) in
      record {
        bound = subst (λ (those : List History). place ≤ length those) alike bound;
        below = subst (λ (other : Key). AllWithin (λ history. key_cmp (history_key history) other ≡ Less) histories 0 place) is parted.0;
        above = subst (λ (other : Key). AllWithin (λ history. key_cmp (history_key history) other ≡ Greater) histories place (length histories)) is parted.1;
      }

-- the last of fresh entries, and the others
fresh_last : (rest : List FreshEntries) (last : FreshEntries) → AreFresh (rest ++ last ∷ []) → AreFresh (last ∷ [])
fresh_last [] last fresh = fresh
fresh_last (first ∷ rest) last fresh = fresh_last rest last fresh.1

fresh_rest : (rest : List FreshEntries) (last : FreshEntries) → AreFresh (rest ++ last ∷ []) → AreFresh rest
fresh_rest [] last fresh = tt
fresh_rest (first ∷ rest) last fresh = (fresh.0, fresh_rest rest last fresh.1)

-- the history that is put behind those that moved stands first of them
pushed_first : (moved pushed rest : List History) (history : History) → pushed ≡ moved ++ history ∷ [] → reverse moved ≡ rest → reverse pushed ≡ history ∷ rest
pushed_first moved pushed rest history is turned =
    ap reverse is ∙ reverse-append moved (history ∷ []) ∙ ap (λ (histories : List History). history ∷ histories) turned

-- the history that has the key has room
pub put-requires : goal.put-requires
put-requires c =
    let change = c.args.change in
    let histories = c.args.histories.now.items in
    let key : Key = (place_of_kind c.kind-kind.result, c.id-id.result.now) in
    let is : key ≡ change_key change = λ i. (place_of_kind (c.kind-kind.ensures.kind i), c.id-id.ensures i) in
    let held = found_holds change c.deref.result.now histories c.deref.ensures.value key is c.in-Ok.place c.index_mut.result.now c.index_mut.ensures.value c.in-Ok.ensures.bound
    (c.in-Ok.ensures.position (λ (history : History). key_cmp (history_key history) key) (always_returns_same _ _ _ (λ a r f called. (search rules, search rules)))) in
    subst (HasRoom change) (sym held.value) (all_at (HasRoom change) histories c.in-Ok.place c.index_mut.result.now c.requires.grown held.bound) (key_exact _ _ held.same)

-- the last of the fresh entries is empty and has room
pub new-requires-clause-empty : goal.new-requires-clause-empty
new-requires-clause-empty c = (fresh_last c.take_last-entries.new.self.items c.take_last-entries.result (subst AreFresh c.take_last-entries.ensures.items c.requires.fresh)).0.0

pub new-requires-clause-room : goal.new-requires-clause-room
new-requires-clause-room c = (fresh_last c.take_last-entries.new.self.items c.take_last-entries.result (subst AreFresh c.take_last-entries.ensures.items c.requires.fresh)).0.1

pub returns-in-Ok-clause-put : goal.returns-in-Ok-clause-put
returns-in-Ok-clause-put c =
    let change = c.args.change in
    let histories = c.args.histories.now.items in
    let key : Key = (place_of_kind c.kind-kind.result, c.id-id.result.now) in
    let is : key ≡ change_key change = λ i. (place_of_kind (c.kind-kind.ensures.kind i), c.id-id.ensures i) in
    let held = found_holds change c.deref.result.now histories c.deref.ensures.value key is c.in-Ok.place c.index_mut.result.now c.index_mut.ensures.value c.in-Ok.ensures.bound
    (c.in-Ok.ensures.position (λ (history : History). key_cmp (history_key history) key) (always_returns_same _ _ _ (λ a r f called. (search rules, search rules)))) in
    puts_grown c.args.version change histories c.args.spare.now.items c.requires.pasts c.requires.above c.in-Ok.place held.bound c.index_mut.result.now c.put.new.self held.value held.same c.put.ensures

pub returns-in-Ok-clause-grown : goal.returns-in-Ok-clause-grown
returns-in-Ok-clause-grown c =
    let change = c.args.change in
    let histories = c.args.histories.now.items in
    let old = c.index_mut.result.now in
    let key : Key = (place_of_kind c.kind-kind.result, c.id-id.result.now) in
    let is : key ≡ change_key change = λ i. (place_of_kind (c.kind-kind.ensures.kind i), c.id-id.ensures i) in
    let held = found_holds change c.deref.result.now histories c.deref.ensures.value key is c.in-Ok.place c.index_mut.result.now c.index_mut.ensures.value c.in-Ok.ensures.bound
    (c.in-Ok.ensures.position (λ (history : History). key_cmp (history_key history) key) (always_returns_same _ _ _ (λ a r f called. (search rules, search rules)))) in
    let kept : history_key c.put.new.self ≡ change_key change = ap past_key c.put.ensures ∙ pushed_key (past_of old) (record { version = c.args.version; value = change }) (omega (arith, old.some)) ∙ key_exact _ _ held.same in
    λ (row : RowChange) less grown. all_set (HasRoom row) histories c.in-Ok.place c.put.new.self grown (λ of_row.
    let both : key_cmp (change_key row) (change_key change) ≡ Equal = subst (λ (other : Key). key_cmp other (change_key change) ≡ Equal) (sym kept ∙ of_row) (key_same (change_key change)) in
    absurd (apart (sym less ∙ both)))

pub returns-in-Err-clause-put : goal.returns-in-Err-clause-put
returns-in-Err-clause-put c =
    let change = c.args.change in
    let histories = c.args.histories.now.items in
    let spare = c.args.spare.now.items in
    let key : Key = (place_of_kind c.kind-kind.result, c.id-id.result.now) in
    let is : key ≡ change_key change = λ i. (place_of_kind (c.kind-kind.ensures.kind i), c.id-id.ensures i) in
    let parted = gap_parts change c.deref.result.now histories c.deref.ensures.value key is c.in-Err.place spare c.requires.pasts c.in-Err.ensures.bound
    (c.in-Err.ensures.position (λ (history : History). key_cmp (history_key history) key) (always_returns_same _ _ _ (λ a r f called. (search rules, search rules)))) in
    let first = pushed_first c.move_from.new.spare.items c.push_reserved.new.self.items (drop c.in-Err.place histories ++ reverse spare) c.new.result c.push_reserved.ensures.items c.move_from.ensures.moved in
    subst (λ (left : List History). PutsRow c.args.version change (parts_of histories spare) (parts_of left c.push_reserved.new.self.items)) (sym c.move_from.ensures.histories)
    (puts_new c.args.version change histories spare c.requires.pasts c.requires.above c.in-Err.place parted.bound parted.below parted.above c.new.result c.new.ensures c.push_reserved.new.self.items first)

pub returns-in-Err-clause-above : goal.returns-in-Err-clause-above
returns-in-Err-clause-above c =
    let change = c.args.change in
    let histories = c.args.histories.now.items in
    let spare = c.args.spare.now.items in
    let key : Key = (place_of_kind c.kind-kind.result, c.id-id.result.now) in
    let is : key ≡ change_key change = λ i. (place_of_kind (c.kind-kind.ensures.kind i), c.id-id.ensures i) in
    let parted = gap_parts change c.deref.result.now histories c.deref.ensures.value key is c.in-Err.place spare c.requires.pasts c.in-Err.ensures.bound
    (c.in-Err.ensures.position (λ (history : History). key_cmp (history_key history) key) (always_returns_same _ _ _ (λ a r f called. (search rules, search rules)))) in
    let first = pushed_first c.move_from.new.spare.items c.push_reserved.new.self.items (drop c.in-Err.place histories ++ reverse spare) c.new.result c.push_reserved.ensures.items c.move_from.ensures.moved in
    λ (row : RowChange) less up. subst (AreAbove row) (sym first) (
      subst (λ (other : Key). key_cmp (change_key row) other ≡ Less) (sym (ap past_key c.new.ensures)) less,
      all_append (IsAbove row) (drop c.in-Err.place histories) (reverse spare) (all_from (IsAbove row) histories c.in-Err.place (λ place default from within.
          let there = history_key (get_or histories place default) in
          key_total.trans (change_key row) (change_key change) there less (less_from_greater there (change_key change) (parted.above place default from within)))) up,
    )

pub returns-in-Err-clause-grown : goal.returns-in-Err-clause-grown
returns-in-Err-clause-grown c = λ (row : RowChange) less grown. subst (HaveRoom row) (sym c.move_from.ensures.histories) (all_take (HasRoom row) c.args.histories.now.items c.in-Err.place grown)

pub returns-in-Err-clause-fresh : goal.returns-in-Err-clause-fresh
returns-in-Err-clause-fresh c = fresh_rest c.take_last-entries.new.self.items c.take_last-entries.result (subst AreFresh c.take_last-entries.ensures.items c.requires.fresh)
