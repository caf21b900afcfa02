-- The entries of a delta fit the rows from which it leads, and parts of them do.
use Rattle.std.proofs.Common.{◌≡◌, ◌+◌, ◌<◌, ◌≤◌, ℕ, suc, length, drop, drop-cons, add-one, get_or, List, [], ◌∷◌, ◌++◌}
use Rattle.std.proofs.Common.{Bool, true, false, ◌&&◌, not, cond, Option, Some, None, refl, sym, ap, ◌∙◌}
use Rattle.std.proofs.lemmas.Bool.{and_from}
use Rattle.std.specs.Prelude.{◌||◌, is_some}
use Rattle.std.specs.FinMap.Entries as entries
use Rattle.std.specs.List.{AllByRecursion}
use Rattle.std.specs.Ordering.{is_eq, ordering_reverse}
use Rattle.std.specs.declared.cmp.Ordering.{Ordering}
use Rattle.std.specs.declared.cmp.Ordering.TheVariants.{Equal, Greater, Less}
use Rattle.std.proofs.lemmas.List.{drop_all}
use Rattle.hub_spec.proofs.Below.{and_first, and_second, less_from_is_lt}
use Rattle.reference_rules.proofs.KeyOrder.{key_total}
use Rattle.roster_types.specs.Keys.{Ascends, Key, key_cmp, keyed, look_up, row_key}
use Rattle.roster_types.specs.Records.{Record}
use Rattle.roster_values.specs.declared.kind.Kind.{Kind}
use Rattle.row_deltas.proofs.DeltaLemmas.{Ascends-delta, look_up-delta}
use Rattle.row_deltas.proofs.MergeLemmas.{ids_gone-append, look_up-rows_put, put_of, rows_put-append}
use Rattle.row_deltas.specs.Deltas.{AreOf, delta_of, difference, entry_key, ids_gone, rows_put}
use Rattle.row_deltas.specs.declared.entry.DeltaEntry.{DeltaEntry}
use Rattle.row_deltas.specs.declared.entry.DeltaEntry.TheVariants.{Gone, Put}
use Rattle.version_core.proofs.Places.{greater_from_less}
use Rattle.version_core.proofs.PutLemmas.{key_same}
use Rattle.version_core.specs.Spans.{key_in}
use Rattle.consumer_deltas.specs.DeltaFits.{apart, fits, has_id, has_row}
use Rattle.consumer_deltas.specs.DeltaGathering.{AreFirst}
use Rattle.consumer_deltas.specs.DeltaJudging.{Sofar}

-- what is gone was there
gone_old : (o n : Option Record) (id : List ℕ) → difference o n ≡ Some (Gone id) → is_some o ≡ true
gone_old None None id e = cc
gone_old None (Some n) id e = cc
gone_old (Some o) n id e = refl

module _ (kind : Kind) where
  abbrev FoundIn : List DeltaEntry → List ℕ → Type 0
  FoundIn es id = look_up (entry_key kind) (key_in kind id) es ≡ Some (Gone id)

  -- what is gone behind a key is above it
  pub all_below : (k : Key) (es : List DeltaEntry) → entries.below_all key_cmp k (keyed (entry_key kind) es) ≡ true → AllByRecursion (λ id. key_cmp k (key_in kind id) ≡ Less) (ids_gone es)
  all_below k [] below = tt
  all_below k (Put row ∷ es) below = all_below k es (and_second _ _ below)
  all_below k (Gone id ∷ es) below = (less_from_is_lt _ (and_first _ _ below), all_below k es (and_second _ _ below))

  -- behind an entry that is below them
  deeper : (e : DeltaEntry) (es : List DeltaEntry) (ids : List (List ℕ)) → AllByRecursion (λ id. key_cmp (entry_key kind e) (key_in kind id) ≡ Less) ids → AllByRecursion (FoundIn es) ids → AllByRecursion (FoundIn (e ∷ es)) ids
  deeper e es [] below found = tt
  deeper e es (id ∷ ids) below found =
      (ap (λ o. cond (is_eq o) (Some e) (look_up (entry_key kind) (key_in kind id) es)) (greater_from_less (entry_key kind e) (key_in kind id) below.0) ∙ found.0, deeper e es ids below.1 found.1)

  found_gone : (es : List DeltaEntry) → Ascends (entry_key kind) es → AllByRecursion (FoundIn es) (ids_gone es)
  found_gone [] up = tt
  found_gone (Put row ∷ es) up = deeper (Put row) es (ids_gone es) (all_below (row_key row) es (and_first _ _ up)) (found_gone es (and_second _ _ up))
  found_gone (Gone id ∷ es) up = (
    ap (λ o. cond (is_eq o) (Some (Gone id)) (look_up (entry_key kind) (key_in kind id) es)) (key_same (key_in kind id)),
    deeper (Gone id) es (ids_gone es) (all_below (key_in kind id) es (and_first _ _ up)) (found_gone es (and_second _ _ up)),
  )

  module _ (old new : List Record) (are_old : AreOf kind old) (are_new : AreOf kind new) (up : Ascends row_key old) (up' : Ascends row_key new) where
    abbrev all : List DeltaEntry
    all = delta_of kind old new

    each_fits : (ids : List (List ℕ)) → AllByRecursion (FoundIn all) ids → fits kind old (rows_put all) ids ≡ true
    each_fits [] found = refl
    each_fits (id ∷ ids) found =
        let k = key_in kind id in
        let was : is_some (look_up row_key k old) ≡ true = gone_old (look_up row_key k old) (look_up row_key k new) id (sym (look_up-delta kind old new are_old are_new up up' k) ∙ found.0) in
        let apart : not (is_some (look_up row_key k (rows_put all))) ≡ true = ap (λ o. not (is_some o)) (look_up-rows_put kind k all (Ascends-delta kind old new are_old are_new up up') ∙ ap put_of found.0) in
        and_from _ _ was (and_from _ _ apart (each_fits ids found.1))

    pub fits_delta : fits kind old (rows_put all) (ids_gone all) ≡ true
    fits_delta = each_fits (ids_gone all) (found_gone all (Ascends-delta kind old new are_old are_new up up'))

-- ---- parts

and_regroup : (a b c d : Bool) → (a && (b && (c && d))) ≡ ((a && (b && c)) && d)
and_regroup false b c d = refl
and_regroup true false c d = refl
and_regroup true true c d = refl

and_swap : (a b c : Bool) → (a && (b && c)) ≡ (b && (a && c))
and_swap true true c = refl
and_swap true false c = refl
and_swap false true c = refl
and_swap false false c = refl

-- held, and in none of two lists
in_none : (h p q f a : Bool) → (h && (not (p || q) && (f && a))) ≡ ((h && (not p && f)) && (not q && a))
in_none false p q f a = refl
in_none true true q f a = refl
in_none true false true true a = refl
in_none true false true false a = refl
in_none true false false f a = refl

in_none' : (h p q f a : Bool) → (h && (not (p || q) && (f && a))) ≡ ((h && (not q && f)) && (not p && a))
in_none' false p q f a = refl
in_none' true true true f a = refl
in_none' true true false true a = refl
in_none' true true false false a = refl
in_none' true false true f a = refl
in_none' true false false f a = refl

turned : (o : Ordering) → is_eq (ordering_reverse o) ≡ is_eq o
turned Less = refl
turned Equal = refl
turned Greater = refl

same_either_way : (a b : Key) → is_eq (key_cmp a b) ≡ is_eq (key_cmp b a)
same_either_way a b = ap is_eq (key_total.antisymm a b) ∙ turned (key_cmp b a)

module _ (kind : Kind) where
  has_joined : (rows more : List Record) (id : List ℕ) → has_id kind (rows ++ more) id ≡ (has_id kind rows id || has_id kind more id)
  has_joined [] more id = refl
  has_joined (row ∷ rows) more id =
      let k = key_in kind id in
      elim (is_eq (key_cmp k (row_key row))) as (λ b. is_some (cond b (Some row) (look_up row_key k (rows ++ more))) ≡ (is_some (cond b (Some row) (look_up row_key k rows)) || has_id kind more id)) [
        | true ↦ refl
        | false ↦ has_joined rows more id
      ]

  module _ (held : List Record) where
    fits_ids : (puts : List Record) (ids more : List (List ℕ)) → fits kind held puts (ids ++ more) ≡ (fits kind held puts ids && fits kind held puts more)
    fits_ids puts [] more = refl
    fits_ids puts (id ∷ ids) more =
        ap (λ b. has_id kind held id && (not (has_id kind puts id) && b)) (fits_ids puts ids more)
        ∙ and_regroup (has_id kind held id) (not (has_id kind puts id)) (fits kind held puts ids) (fits kind held puts more)

    fits_rows : (puts more : List Record) (ids : List (List ℕ)) → fits kind held (puts ++ more) ids ≡ (fits kind held puts ids && apart kind more ids)
    fits_rows puts more [] = refl
    fits_rows puts more (id ∷ ids) =
        (λ i. has_id kind held id && (not (has_joined puts more id i) && fits_rows puts more ids i))
        ∙ in_none (has_id kind held id) (has_id kind puts id) (has_id kind more id) (fits kind held puts ids) (apart kind more ids)

    fits_rows' : (puts more : List Record) (ids : List (List ℕ)) → fits kind held (puts ++ more) ids ≡ (fits kind held more ids && apart kind puts ids)
    fits_rows' puts more [] = refl
    fits_rows' puts more (id ∷ ids) =
        (λ i. has_id kind held id && (not (has_joined puts more id i) && fits_rows' puts more ids i))
        ∙ in_none' (has_id kind held id) (has_id kind puts id) (has_id kind more id) (fits kind held more ids) (apart kind puts ids)

    -- behind entries that fit, those of a page do where they fit alone, and no id is put and gone
    fits_behind : (puts more : List Record) (ids others : List (List ℕ)) → fits kind held puts ids ≡ true
        → fits kind held (puts ++ more) (ids ++ others) ≡ (fits kind held more others && (apart kind puts others && apart kind more ids))
    fits_behind puts more ids others fit =
        fits_ids (puts ++ more) ids others
        ∙ (λ i. (fits_rows puts more ids ∙ ap (λ b. b && apart kind more ids) fit) i && fits_rows' puts more others i)
        ∙ and_last (apart kind more ids) (fits kind held more others) (apart kind puts others)
      where
        and_last : (a b c : Bool) → (a && (b && c)) ≡ (b && (c && a))
        and_last true true true = refl
        and_last true true false = refl
        and_last true false c = refl
        and_last false true true = refl
        and_last false true false = refl
        and_last false false c = refl

    pub fits_by_parts : (puts more : List Record) (ids others : List (List ℕ)) → fits kind held puts ids ≡ true → (a b d : Bool) → a ≡ fits kind held more others → b ≡ apart kind puts others → d ≡ apart kind more ids
        → (a && (b && d)) ≡ fits kind held (puts ++ more) (ids ++ others)
    fits_by_parts puts more ids others fit a b d x y z = (λ i. x i && (y i && z i)) ∙ sym (fits_behind puts more ids others fit)

    -- the first of entries that fit do so
    fits_front : (puts more : List Record) (ids others : List (List ℕ)) → fits kind held (puts ++ more) (ids ++ others) ≡ true → fits kind held puts ids ≡ true
    fits_front puts more ids others fit =
        let front : fits kind held (puts ++ more) ids ≡ true = and_first _ (fits kind held (puts ++ more) others) (sym (fits_ids (puts ++ more) ids others) ∙ fit) in
        and_first _ (apart kind more ids) (sym (fits_rows puts more ids) ∙ front)

  pub first_fits : (held : List Record) (sofar : Sofar) (all : List DeltaEntry) → AreFirst sofar all → fits kind held (rows_put all) (ids_gone all) ≡ true → fits kind held sofar.puts sofar.gone ≡ true
  first_fits held sofar all first fit =
      let puts : rows_put all ≡ sofar.puts ++ rows_put first.rest = ap rows_put (sym first.joined) ∙ rows_put-append first.seen first.rest ∙ ap (λ rows. rows ++ rows_put first.rest) (sym first.puts) in
      let gone : ids_gone all ≡ sofar.gone ++ ids_gone first.rest = ap ids_gone (sym first.joined) ∙ ids_gone-append first.seen first.rest ∙ ap (λ ids. ids ++ ids_gone first.rest) (sym first.gone) in
      fits_front held sofar.puts (rows_put first.rest) sofar.gone (ids_gone first.rest) ((λ i. fits kind held (sym puts i) (sym gone i)) ∙ fit)

  -- ---- each row looked for among the ids

  apart_none : (ids : List (List ℕ)) → apart kind [] ids ≡ true
  apart_none [] = refl
  apart_none (id ∷ ids) = apart_none ids

  apart_both : (e : Bool) (row : Record) (o : Option Record) (id : List ℕ) (m : Option (List ℕ)) (a : Bool)
      → (not (is_some (cond e (Some row) o)) && (not (is_some m) && a)) ≡ (not (is_some (cond e (Some id) m)) && (not (is_some o) && a))
  apart_both true row o id m a = refl
  apart_both false row o id m a = and_swap (not (is_some o)) (not (is_some m)) a

  apart_row : (row : Record) (rows : List Record) (ids : List (List ℕ)) → apart kind (row ∷ rows) ids ≡ (not (has_row kind ids row) && apart kind rows ids)
  apart_row row rows [] = refl
  apart_row row rows (id ∷ ids) =
      let k = key_in kind id in
      ap (λ b. not (has_id kind (row ∷ rows) id) && b) (apart_row row rows ids)
      ∙ apart_both (is_eq (key_cmp k (row_key row))) row (look_up row_key k rows) id (look_up (key_in kind) (row_key row) ids) (apart kind rows ids)
      ∙ ap (λ b. not (is_some (cond b (Some id) (look_up (key_in kind) (row_key row) ids))) && (not (has_id kind rows id) && apart kind rows ids)) (same_either_way k (row_key row))

  -- at a row of a list
  module _ (rows : List Record) (n : ℕ) (row d : Record) (ids : List (List ℕ)) (within : n < length rows) (is : row ≡ get_or rows n d) where
    here : apart kind (drop n rows) ids ≡ (not (has_row kind ids row) && apart kind (drop (suc n) rows) ids)
    here = ap (λ rows. apart kind rows ids) (drop-cons rows n d within ∙ ap (λ r. r ∷ drop (suc n) rows) (sym is)) ∙ apart_row row (drop (suc n) rows) ids

    pub apart_on : has_row kind ids row ≡ false → apart kind (drop (n + 1) rows) ids ≡ apart kind (drop n rows) ids
    apart_on none = rw add-one (sym (here ∙ ap (λ b. not b && apart kind (drop (suc n) rows) ids) none))

    pub apart_not : has_row kind ids row ≡ true → apart kind (drop n rows) ids ≡ false
    apart_not some = here ∙ ap (λ b. not b && apart kind (drop (suc n) rows) ids) some

  pub apart_end : (rows : List Record) (n : ℕ) (ids : List (List ℕ)) → length rows ≤ n → apart kind (drop n rows) ids ≡ true
  apart_end rows n ids le = ap (λ rows. apart kind rows ids) (drop_all n rows le) ∙ apart_none ids
