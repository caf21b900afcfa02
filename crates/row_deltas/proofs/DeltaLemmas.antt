-- What a delta has, and what it makes of the old rows.
use Rattle.std.proofs.Common.{◌≡◌, ℕ, List, [], ◌∷◌, bytes_eq, filter, map, Bool, true, false, not, cond, option_map}
use Rattle.std.proofs.Common.{Option, Some, None, refl, sym, ap, subst, ◌∙◌}
use Rattle.std.specs.Prelude.{is_none, option_and_then}
use Rattle.std.specs.FinMap.Entries as entries
use Rattle.std.specs.List.{AllByRecursion}
use Rattle.std.specs.Option.{option_map_or, option_or}
use Rattle.std.specs.Ordering.{is_eq}
use Rattle.std.specs.declared.cmp.Ordering.TheVariants.{Equal, Greater, Less}
use Rattle.std.proofs.lemmas.Slice.Eq.{bytes_eq-Decides}
use Rattle.version_core.proofs.Below.KeyOrder.{equal_from_is_eq, found_key, key_exact}
use Rattle.roster_types.specs.Keys.{Ascends, Key, is_of_kind, key_cmp, look_up, row_key}
use Rattle.roster_types.specs.Records.{Record}
use Rattle.roster_values.specs.Kinds.{place_of_kind}
use Rattle.roster_values.specs.declared.kind.Kind.{Kind}
use Rattle.version_core.proofs.LookUps.{Ascends-filter, Ascends-map, KeepKeys, if_kept, look_up-filter, look_up-map}
use Rattle.row_deltas.proofs.SameLemmas.{row_decides, row_same}
use Rattle.row_deltas.specs.Deltas.{AreOf, applied, delta_of, difference, entry_key, gone_entry, is_lacking, stands_in}
use Rattle.row_deltas.specs.Deltas.{without}
use Rattle.row_deltas.specs.Sameness.{same_row}
use Rattle.row_deltas.specs.declared.entry.DeltaEntry.{DeltaEntry}
use Rattle.row_deltas.specs.declared.entry.DeltaEntry.TheVariants.{Put, Gone}
use Rattle.std.proofs.lemmas.Bool.{eqb-true}
use Rattle.version_core.proofs.OrderLemmas.{Ascends-overlaid, Ascends-put, look_up-overlaid, look_up-put}
use Rattle.version_core.proofs.OrderLemmas.{same_from_look_up}
use Rattle.version_core.proofs.PutLemmas.{key_same}
use Rattle.version_core.specs.Order.{overlaid, put}

pub key_of : (kind : Kind) (row : Record) → is_of_kind kind row ≡ true → (place_of_kind kind, row.id) ≡ row_key row
key_of kind row of = ap (λ n. (n, row.id)) (sym (eqb-true (place_of_kind row.kind) (place_of_kind kind) of))

module _ (kind : Kind) where
  pub put_keys : (rows : List Record) → KeepKeys row_key (entry_key kind) Put rows
  put_keys [] = tt
  put_keys (row ∷ rows) = (refl, put_keys rows)

  pub gone_keys : (rows : List Record) → AreOf kind rows → KeepKeys row_key (entry_key kind) gone_entry rows
  gone_keys [] are = tt
  gone_keys (row ∷ rows) are = (key_of kind row are.0, gone_keys rows are.1)

  pub kept_of : (p : Record → Bool) (rows : List Record) → AreOf kind rows → AreOf kind (filter p rows)
  kept_of p [] are = tt
  kept_of p (row ∷ rows) are =
      elim (p row) as (λ b. AreOf kind (cond b (row ∷ filter p rows) (filter p rows))) [ true ↦ (are.0, kept_of p rows are.1) | false ↦ kept_of p rows are.1 ]

  -- what differs of one key, by the tests of the rows
  module _ (k : Key) (old new : List Record) where
    differs : (o n : Option Record) → look_up row_key k old ≡ o → look_up row_key k new ≡ n
        → option_or (option_map gone_entry (option_and_then (if_kept row_key (is_lacking new)) o)) (option_map Put (option_and_then (if_kept row_key (λ row. not (stands_in old row))) n)) ≡ difference o n
    differs None None at at' = refl
    differs None (Some n) at at' =
        let here : look_up row_key (row_key n) old ≡ None = ap (λ q. look_up row_key q old) (found_key row_key k new n at') ∙ at in
        ap (λ o. option_map Put (cond (not (option_map_or (same_row n) o false)) (Some n) None)) here
    differs (Some o) None at at' =
        let here : look_up row_key (row_key o) new ≡ None = ap (λ q. look_up row_key q new) (found_key row_key k old o at) ∙ at' in
        ap (λ p. option_or (option_map gone_entry (cond (is_none p) (Some o) None)) None) here
    differs (Some o) (Some n) at at' =
        let there : look_up row_key (row_key o) new ≡ Some n = ap (λ q. look_up row_key q new) (found_key row_key k old o at) ∙ at' in
        let here : look_up row_key (row_key n) old ≡ Some o = ap (λ q. look_up row_key q old) (found_key row_key k new n at') ∙ at in
        (λ i. option_or (option_map gone_entry (cond (is_none (there i)) (Some o) None)) (option_map Put (cond (not (option_map_or (same_row n) (here i) false)) (Some n) None)))
        ∙ elim (same_row n o) as (λ b. option_map Put (cond (not b) (Some n) None) ≡ cond b None (Some (Put n))) [ true ↦ refl | false ↦ refl ]

  module _ (old new : List Record) (are_old : AreOf kind old) (are_new : AreOf kind new) (up : Ascends row_key old) (up' : Ascends row_key new) where
    pub look_up-delta : (k : Key) → look_up (entry_key kind) k (delta_of kind old new) ≡ difference (look_up row_key k old) (look_up row_key k new)
    unfolding delta_of
    look_up-delta k =
        let stays : Record → Bool = λ row. not (stands_in old row) in
        let goes = is_lacking new in
        look_up-overlaid (entry_key kind) k (map Put (filter stays new)) (map gone_entry (filter goes old))
        ∙ (λ i. option_or (look_up-map row_key (entry_key kind) gone_entry k (filter goes old) (gone_keys (filter goes old) (kept_of goes old are_old)) i) (look_up-map row_key (entry_key kind) Put k (filter stays new) (put_keys (filter stays new)) i))
        ∙ (λ i. option_or (option_map gone_entry (look_up-filter row_key goes k old up i)) (option_map Put (look_up-filter row_key stays k new up' i)))
        ∙ differs k old new (look_up row_key k old) (look_up row_key k new) refl refl

    pub Ascends-delta : Ascends (entry_key kind) (delta_of kind old new)
    unfolding delta_of
    Ascends-delta =
        let stays : Record → Bool = λ row. not (stands_in old row) in
        Ascends-overlaid (entry_key kind) (map Put (filter stays new)) (map gone_entry (filter (is_lacking new) old))
        (Ascends-map row_key (entry_key kind) Put (filter stays new) (put_keys (filter stays new)) (Ascends-filter row_key stays new up'))

  -- ---- what entries make of rows

  -- a row that is put is of the kind
  abbrev pub IsEntryOf : DeltaEntry → Type 0
  IsEntryOf (Put row) = is_of_kind kind row ≡ true
  IsEntryOf (Gone id) = Unit {0}

  pub AreEntriesOf : List DeltaEntry → Type 0
  AreEntriesOf entries = AllByRecursion IsEntryOf entries

  all_put : {X : Type 0} (key : X → Key) (P : X → Type 0) (x : X) (xs : List X) → P x → AllByRecursion P xs → AllByRecursion P (put key x xs)
  all_put key P x [] here all = (here, tt)
  all_put key P x (y ∷ ys) here all =
      elim (key_cmp (key x) (key y)) as (λ o. AllByRecursion P (entries.by_order o (x ∷ y ∷ ys) (x ∷ ys) (y ∷ put key x ys))) [
        | Less ↦ (here, all)
        | Equal ↦ (here, all.1)
        | Greater ↦ (all.0, all_put key P x ys here all.1)
      ]

  pub all_overlaid : {X : Type 0} (key : X → Key) (P : X → Type 0) (base changes : List X) → AllByRecursion P base → AllByRecursion P changes → AllByRecursion P (overlaid key base changes)
  all_overlaid key P base [] all more = all
  all_overlaid key P base (x ∷ changes) all more = all_put key P x (overlaid key base changes) more.0 (all_overlaid key P base changes all more.1)

  are_puts : (rows : List Record) → AreOf kind rows → AllByRecursion IsEntryOf (map Put rows)
  are_puts [] are = tt
  are_puts (row ∷ rows) are = (are.0, are_puts rows are.1)

  are_gone : (rows : List Record) → AllByRecursion IsEntryOf (map gone_entry rows)
  are_gone [] = tt
  are_gone (row ∷ rows) = (tt, are_gone rows)

  pub delta_entries : (old new : List Record) → AreOf kind new → AreEntriesOf (delta_of kind old new)
  unfolding delta_of AreEntriesOf
  delta_entries old new are =
      let stays : Record → Bool = λ row. not (stands_in old row) in
      all_overlaid (entry_key kind) IsEntryOf (map Put (filter stays new)) (map gone_entry (filter (is_lacking new) old)) (are_puts (filter stays new) (kept_of stays new are)) (are_gone (filter (is_lacking new) old))

  applied_of : (entries : List DeltaEntry) (rows : List Record) → AllByRecursion IsEntryOf entries → AreOf kind rows → AreOf kind (applied entries rows)
  applied_of [] rows of are = are
  applied_of (Put row ∷ entries) rows of are = all_put row_key (λ r. is_of_kind kind r ≡ true) row (applied entries rows) of.0 (applied_of entries rows of.1 are)
  applied_of (Gone id ∷ entries) rows of are = kept_of (λ row. not (bytes_eq row.id id)) (applied entries rows) (applied_of entries rows of.1 are)

  applied_up : (entries : List DeltaEntry) (rows : List Record) → Ascends row_key rows → Ascends row_key (applied entries rows)
  applied_up [] rows up = up
  applied_up (Put row ∷ entries) rows up = Ascends-put row_key row (applied entries rows) (applied_up entries rows up)
  applied_up (Gone id ∷ entries) rows up = Ascends-filter row_key (λ row. not (bytes_eq row.id id)) (applied entries rows) (applied_up entries rows up)

  -- what an entry, where there is one, makes of what stands under its key
  abbrev pub after_entry : Option DeltaEntry → Option Record → Option Record
  after_entry None o = o
  after_entry (Some (Put row)) o = Some row
  after_entry (Some (Gone id)) o = None

  -- the key of an id is one key of the kind
  pub key_tells : (row : Record) (id : List ℕ) → is_of_kind kind row ≡ true → bytes_eq row.id id ≡ is_eq (key_cmp (row_key row) (place_of_kind kind, id))
  key_tells row id of =
      elim (bytes_eq row.id id) as (λ b. bytes_eq row.id id ≡ b → b ≡ is_eq (key_cmp (row_key row) (place_of_kind kind, id))) [
        | true ↦ λ e.
            let same : row_key row ≡ (place_of_kind kind, id) = (λ i. (eqb-true (place_of_kind row.kind) (place_of_kind kind) of i, (bytes_eq-Decides row.id id).0 e i)) in
            sym (ap is_eq (ap (λ q. key_cmp (row_key row) q) (sym same) ∙ key_same (row_key row)))
        | false ↦ λ e. apart e (is_eq (key_cmp (row_key row) (place_of_kind kind, id))) refl
      ] refl
    where
      apart : bytes_eq row.id id ≡ false → (b : Bool) → is_eq (key_cmp (row_key row) (place_of_kind kind, id)) ≡ b → false ≡ b
      apart e false f = refl
      apart e true f =
          let same : row_key row ≡ (place_of_kind kind, id) = key_exact (row_key row) (place_of_kind kind, id) (equal_from_is_eq _ f) in
          sym e ∙ (bytes_eq-Decides row.id id).1 (ap (λ (q : Key). q.1) same)

  -- a row that is found is of the kind
  pub found_of : (k : Key) (rows : List Record) (row : Record) → AreOf kind rows → look_up row_key k rows ≡ Some row → is_of_kind kind row ≡ true
  found_of k [] row are e = cc
  found_of k (x ∷ rows) row are e =
      elim (is_eq (key_cmp k (row_key x))) as (λ b. cond b (Some x) (look_up row_key k rows) ≡ Some row → is_of_kind kind row ≡ true) [
        | true ↦ λ same. let is : x ≡ row = cc in subst (λ r. is_of_kind kind r ≡ true) is are.0
        | false ↦ λ later. found_of k rows row are.1 later
      ] e

  pub look_up-without : (k : Key) (id : List ℕ) (rows : List Record) → AreOf kind rows → Ascends row_key rows
      → look_up row_key k (without id rows) ≡ cond (is_eq (key_cmp k (place_of_kind kind, id))) None (look_up row_key k rows)
  look_up-without k id rows are up =
      look_up-filter row_key (λ row. not (bytes_eq row.id id)) k rows up ∙ by (look_up row_key k rows) refl
    where
      by : (o : Option Record) → look_up row_key k rows ≡ o → option_and_then (if_kept row_key (λ row. not (bytes_eq row.id id))) o ≡ cond (is_eq (key_cmp k (place_of_kind kind, id))) None o
      by None e = let none : Option Record = None in elim (is_eq (key_cmp k (place_of_kind kind, id))) as (λ b. none ≡ cond b none none) [ true ↦ refl | false ↦ refl ]
      by (Some row) e =
          let tells = key_tells row id (found_of k rows row are e) ∙ ap (λ q. is_eq (key_cmp q (place_of_kind kind, id))) (found_key row_key k rows row e) in
          ap (λ b. cond (not b) (Some row) None) tells
          ∙ elim (is_eq (key_cmp k (place_of_kind kind, id))) as (λ b. cond (not b) (Some row) None ≡ cond b None (Some row)) [ true ↦ refl | false ↦ refl ]

  pub look_up-applied : (k : Key) (entries : List DeltaEntry) (rows : List Record) → AllByRecursion IsEntryOf entries → AreOf kind rows → Ascends row_key rows
      → look_up row_key k (applied entries rows) ≡ after_entry (look_up (entry_key kind) k entries) (look_up row_key k rows)
  look_up-applied k [] rows of are up = refl
  look_up-applied k (Put row ∷ entries) rows of are up =
      look_up-put row_key k row (applied entries rows)
      ∙ elim (is_eq (key_cmp k (row_key row))) as (λ b. cond b (Some row) (look_up row_key k (applied entries rows)) ≡ after_entry (cond b (Some (Put row)) (look_up (entry_key kind) k entries)) (look_up row_key k rows)) [
        | true ↦ refl
        | false ↦ look_up-applied k entries rows of.1 are up
      ]
  look_up-applied k (Gone id ∷ entries) rows of are up =
      look_up-without k id (applied entries rows) (applied_of entries rows of.1 are) (applied_up entries rows up)
      ∙ elim (is_eq (key_cmp k (place_of_kind kind, id))) as (λ b. cond b None (look_up row_key k (applied entries rows)) ≡ after_entry (cond b (Some (Gone id)) (look_up (entry_key kind) k entries)) (look_up row_key k rows)) [
        | true ↦ refl
        | false ↦ look_up-applied k entries rows of.1 are up
      ]

  -- what differs leads from the old row to the new one
  pub difference_leads : (o n : Option Record) → after_entry (difference o n) o ≡ n
  difference_leads None None = refl
  difference_leads None (Some n) = refl
  difference_leads (Some o) None = refl
  difference_leads (Some o) (Some n) =
      elim (same_row n o) as (λ b. same_row n o ≡ b → after_entry (cond b None (Some (Put n))) (Some o) ≡ Some n) [
        | true ↦ λ e. ap (λ r. Some r) (sym ((row_decides n o).0 e))
        | false ↦ λ _. refl
      ] refl

  pub difference_same : (o : Option Record) → difference o o ≡ None
  difference_same None = refl
  difference_same (Some o) = ap (λ b. cond b None (Some (Put o))) (row_same o)

  module _ (old new : List Record) (are_old : AreOf kind old) (are_new : AreOf kind new) (up : Ascends row_key old) (up' : Ascends row_key new) where
    pub applied-delta : applied (delta_of kind old new) old ≡ new
    unfolding AreEntriesOf
    applied-delta =
        let entries = delta_of kind old new in
        same_from_look_up row_key (applied entries old) new (applied_up entries old up) up' (λ k.
        look_up-applied k entries old (delta_entries old new are_new) are_old up
        ∙ ap (λ e. after_entry e (look_up row_key k old)) (look_up-delta old new are_old are_new up up' k)
        ∙ difference_leads (look_up row_key k old) (look_up row_key k new))

  pub delta-same : (rows : List Record) → AreOf kind rows → Ascends row_key rows → delta_of kind rows rows ≡ []
  delta-same rows are up =
      same_from_look_up (entry_key kind) (delta_of kind rows rows) [] (Ascends-delta rows rows are are up up) refl (λ k.
      look_up-delta rows rows are are up up k ∙ difference_same (look_up row_key k rows))

  pub same-delta : (old new : List Record) → AreOf kind old → AreOf kind new → Ascends row_key old → Ascends row_key new → delta_of kind old new ≡ [] → old ≡ new
  same-delta old new are_old are_new up up' none = ap (λ (entries : List DeltaEntry). applied entries old) (sym none) ∙ applied-delta old new are_old are_new up up'

  pub following-deltas : (old middle new : List Record) → AreOf kind old → AreOf kind middle → AreOf kind new → Ascends row_key old → Ascends row_key middle → Ascends row_key new
      → applied (delta_of kind middle new) (applied (delta_of kind old middle) old) ≡ applied (delta_of kind old new) old
  following-deltas old middle new are_old are_middle are_new up up' up'' =
      ap (applied (delta_of kind middle new)) (applied-delta old middle are_old are_middle up up')
      ∙ applied-delta middle new are_middle are_new up' up''
      ∙ sym (applied-delta old new are_old are_new up up'')
