-- The entries of a delta: how many there are, and in which order.
use Rattle.std.proofs.Common.{◌≡◌, ◌+◌, ◌-◌, ◌≤◌, ℕ, List, [], ◌∷◌, ◌++◌, Bool, true, false, cond, filter, length, take}
use Rattle.std.proofs.Common.{drop, min, Option, Some, None, refl, sym, ap, ◌∙◌, arith}
use Rattle.std.proofs.lemmas.Bool.{and_from}
use Rattle.std.proofs.lemmas.List.{length-drop, length-take, take-append-drop}
use Rattle.std.specs.List.{AllByRecursion}
use Rattle.std.specs.Ordering.{is_lt}
use Rattle.std.specs.declared.cmp.Ordering.TheVariants.{Equal, Greater, Less}
use Rattle.consumer_sync.proofs.DoneLemmas.{ascends-append}
use Rattle.exchange_link.proofs.CutLemmas.{any_first, rows_ascend}
use Rattle.hub_spec.proofs.Below.{and_first, and_second}
use Rattle.hub_spec.specs.views.Pages.{slice}
use Rattle.keeper_memory.specs.copy.Lists.{ascends, last_from}
use Rattle.reference_rules.proofs.KeyOrder.{same_kind}
use Rattle.roster_types.specs.Keys.{Ascends, Key, is_after, is_of_kind, key_cmp, row_key}
use Rattle.roster_types.specs.Records.{Record}
use Rattle.roster_values.specs.Kinds.{place_of_kind}
use Rattle.roster_values.specs.declared.kind.Kind.{Kind}
use Rattle.row_deltas.proofs.DeltaLemmas.{Ascends-delta}
use Rattle.row_deltas.proofs.EntryLemmas.{all_entries}
use Rattle.row_deltas.proofs.MergeLemmas.{ids_gone-append, rows_put-append, rows_put_above}
use Rattle.row_deltas.specs.Deltas.{AreOf, delta_of, entry_key, gone_entry, ids_gone, rows_put}
use Rattle.row_deltas.specs.declared.entry.DeltaEntry.{DeltaEntry}
use Rattle.row_deltas.specs.declared.entry.DeltaEntry.TheVariants.{Gone, Put}
use Rattle.version_core.specs.Order.{by_order, overlaid, put}
use Rattle.version_core.specs.Spans.{key_in}
use Rattle.consumer_deltas.proofs.DeltaFitLemmas.{all_below}
use Rattle.consumer_deltas.proofs.DeltaToldLemmas.{entry_count, rest_is}
use Rattle.consumer_deltas.specs.DeltaGathering.{AreFirst}
use Rattle.consumer_deltas.specs.DeltaJudging.{Sofar, count_in, ids_ascend, last_id}

-- ---- how many there are

module _ {X : Type 0} (key : X → Key) where
  length-put : (x : X) (xs : List X) → length (put key x xs) ≤ length xs + 1
  length-put x [] = omega arith
  length-put x (y ∷ ys) =
      let le = length-put x ys in
      elim (key_cmp (key x) (key y)) as (λ o. length (by_order o (x ∷ y ∷ ys) (x ∷ ys) (y ∷ put key x ys)) ≤ length (y ∷ ys) + 1) [
        | Less ↦ omega arith
        | Equal ↦ omega arith
        | Greater ↦ omega (arith, le)
      ]

  length-overlaid : (base changes : List X) → length (overlaid key base changes) ≤ length base + length changes
  length-overlaid base [] = omega arith
  length-overlaid base (x ∷ changes) = omega (arith, length-put x (overlaid key base changes), length-overlaid base changes)

kept_short : (p : Record → Bool) (rows : List Record) → length (filter p rows) ≤ length rows
kept_short p [] = omega arith
kept_short p (row ∷ rows) =
    let le = kept_short p rows in
    elim (p row) as (λ b. length (cond b (row ∷ filter p rows) (filter p rows)) ≤ length (row ∷ rows)) [ true ↦ omega (arith, le) | false ↦ omega (arith, le) ]

-- ---- in which order

-- the first of some ids, where there is one, is above an id
abbrev First : Option (List ℕ) → List (List ℕ) → Type 0
First last [] = Unit {0}
First last (id ∷ ids) = is_after last id ≡ true

any_id : (ids : List (List ℕ)) → First None ids
any_id [] = tt
any_id (id ∷ ids) = refl

module _ (kind : Kind) where
  puts_rise : (es : List DeltaEntry) → Ascends (entry_key kind) es → Ascends row_key (rows_put es)
  puts_rise [] up = refl
  puts_rise (Put row ∷ es) up = and_from _ _ (rows_put_above kind (row_key row) es (and_first _ _ up)) (puts_rise es (and_second _ _ up))
  puts_rise (Gone id ∷ es) up = puts_rise es (and_second _ _ up)

  abbrev IsPutOf : DeltaEntry → Type 0
  IsPutOf (Put row) = is_of_kind kind row ≡ true
  IsPutOf (Gone id) = Unit {0}

  puts_are : (es : List DeltaEntry) → AllByRecursion IsPutOf es → AreOf kind (rows_put es)
  puts_are [] all = tt
  puts_are (Put row ∷ es) all = (all.0, puts_are es all.1)
  puts_are (Gone id ∷ es) all = puts_are es all.1

  any_gone : (rows : List Record) → AllByRecursion (λ row. IsPutOf (gone_entry row)) rows
  any_gone [] = tt
  any_gone (row ∷ rows) = (tt, any_gone rows)

  gone_first : (id : List ℕ) (ids : List (List ℕ)) → AllByRecursion (λ other. key_cmp (key_in kind id) (key_in kind other) ≡ Less) ids → First (Some id) ids
  gone_first id [] below = tt
  gone_first id (other ∷ ids) below = ap is_lt (sym (same_kind (place_of_kind kind) id other) ∙ below.0)

  gone_ascend : (last : Option (List ℕ)) (es : List DeltaEntry) → Ascends (entry_key kind) es → First last (ids_gone es) → ids_ascend last (ids_gone es) ≡ true
  gone_ascend last [] up first = refl
  gone_ascend last (Put row ∷ es) up first = gone_ascend last es (and_second _ _ up) first
  gone_ascend last (Gone id ∷ es) up first =
      and_from _ _ first (gone_ascend (Some id) es (and_second _ _ up) (gone_first id (ids_gone es) (all_below kind (key_in kind id) es (and_first _ _ up))))

  module _ (old new : List Record) (are_old : AreOf kind old) (are_new : AreOf kind new) (up : Ascends row_key old) (up' : Ascends row_key new) where
    abbrev all : List DeltaEntry
    all = delta_of kind old new

    pub puts_up : ascends None (rows_put all) ≡ true
    puts_up =
        rows_ascend kind None (rows_put all) (puts_are all (all_entries kind IsPutOf old new (any_gone old) are_new))
        (puts_rise all (Ascends-delta kind old new are_old are_new up up')) (any_first (rows_put all))

    pub gone_up : ids_ascend None (ids_gone all) ≡ true
    gone_up = gone_ascend None all (Ascends-delta kind old new are_old are_new up up') (any_id (ids_gone all))

-- ---- the page that follows the first entries

ids_part_up : (last : Option (List ℕ)) (ids more : List (List ℕ)) → ids_ascend last (ids ++ more) ≡ true → (ids_ascend last ids ≡ true) × (ids_ascend (last_id last ids) more ≡ true)
ids_part_up last [] more up = (refl, up)
ids_part_up last (id ∷ ids) more up =
    let rest = ids_part_up (Some id) ids more (and_second (is_after last id) _ up) in
    (and_from _ _ (and_first (is_after last id) _ up) rest.0, rest.1)

module _ (sofar : Sofar) (limit : ℕ) (all : List DeltaEntry) (first : AreFirst sofar all) where
  abbrev part : List DeltaEntry
  part = slice limit (count_in sofar) all

  abbrev behind : List DeltaEntry
  behind = drop limit first.rest

  next_is : first.rest ≡ part ++ behind
  next_is = sym (take-append-drop limit first.rest) ∙ ap (λ (es : List DeltaEntry). take limit es ++ behind) (sym (rest_is sofar all first))

  puts_split : rows_put all ≡ sofar.puts ++ (rows_put part ++ rows_put behind)
  puts_split =
      ap rows_put (sym first.joined) ∙ rows_put-append first.seen first.rest
      ∙ (λ i. sym first.puts i ++ (ap rows_put next_is ∙ rows_put-append part behind) i)

  gone_split : ids_gone all ≡ sofar.gone ++ (ids_gone part ++ ids_gone behind)
  gone_split =
      ap ids_gone (sym first.joined) ∙ ids_gone-append first.seen first.rest
      ∙ (λ i. sym first.gone i ++ (ap ids_gone next_is ∙ ids_gone-append part behind) i)

  pub puts_next : ascends None (rows_put all) ≡ true → ascends (last_from None sofar.puts) (rows_put part) ≡ true
  puts_next up =
      let rest = ascends-append None sofar.puts (rows_put part ++ rows_put behind) (ap (ascends None) (sym puts_split) ∙ up) in
      (ascends-append (last_from None sofar.puts) (rows_put part) (rows_put behind) rest.1).0

  pub gone_next : ids_ascend None (ids_gone all) ≡ true → ids_ascend (last_id None sofar.gone) (ids_gone part) ≡ true
  gone_next up =
      let rest = ids_part_up None sofar.gone (ids_gone part ++ ids_gone behind) (ap (ids_ascend None) (sym gone_split) ∙ up) in
      (ids_part_up (last_id None sofar.gone) (ids_gone part) (ids_gone behind) rest.1).0

  pub part_count : length (rows_put part) + length (ids_gone part) ≡ min limit (length all - count_in sofar)
  part_count = entry_count part ∙ length-take limit (drop (count_in sofar) all) ∙ ap (min limit) (length-drop (count_in sofar) all)
