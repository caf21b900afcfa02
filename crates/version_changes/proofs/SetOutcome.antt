-- Each set makes an outcome.
use Rattle.std.proofs.Common.{◌≡◌, ℤ, ◌+◌, ◌≤◌, ◌⊎◌, inl, inr, Bool, true, false, ◌&&◌, cond, List, [], ◌∷◌, Option}
use Rattle.std.proofs.Common.{None, Some, bytes_eq, map, option_map, refl, sym, ap, subst, ◌∙◌, arith}
use Rattle.std.proofs.lemmas.Bool.{cases_lt}
use Rattle.std.proofs.lemmas.Bool.Decides.{Decides-like, Decides-and, not_from_Decides}
use Rattle.std.proofs.lemmas.Slice.Eq.{bytes_eq-Decides, slice_eq-Decides}
use Rattle.std.specs.Bool.{Decides}
use Rattle.std.specs.Cmp.Lexicographic.{pointwise}
use Rattle.std.specs.FinMap.Entries as entries
use Rattle.std.specs.Ordering.{is_eq, is_lt}
use Rattle.reference_rules.proofs.KeyOrder.{and_first, and_second, equal_from_is_eq, found_key, key_exact}
use Rattle.roster_types.specs.Keys.{Key, key_cmp, keyed, look_up, row_key}
use Rattle.roster_types.specs.Records.{Record}
use Rattle.roster_types.specs.Sets.{SetRecord}
use Rattle.roster_types.specs.declared.owner.Owner.{Owner}
use Rattle.roster_types.specs.declared.owner.Owner.TheVariants.{Caller, Feed}
use Rattle.roster_types.specs.declared.set_row.SetRow.{SetRow}
use Rattle.version_changes.proofs.Deciding.{deciding, same_row, same_row-Decides}
use Rattle.version_changes.specs.sets.Applying.{Applies, AreNewRows, Becomes, IsDue, Leads, Listed, Makes, Outcome}
use Rattle.version_changes.specs.sets.Applying.{Refuses, Unchanged, dated, is_left_out, marked, owned_by, refusal_of}
use Rattle.version_changes.specs.sets.Applying.{rows_in, set_key, unlisted}
use Rattle.version_changes.specs.declared.sets.publish_fault.PublishFault.{PublishFault}
use Rattle.version_changes.specs.declared.sets.publish_fault.PublishFault.TheVariants.{LastVersion}
use Rattle.version_core.proofs.OrderLemmas.{Ascends-put, look_up-put}
use Rattle.version_core.specs.Changes.{AreChanges, change_key}
use Rattle.version_core.specs.Order.{put}
use Rattle.version_core.specs.Version.{IsVersion, last_version}
use Rattle.version_core.specs.declared.change.BaseVersion.{BaseVersion}
use Rattle.version_core.specs.declared.row_change.RowChange.{RowChange}

-- ---- whether two lists of rows are equal is decided

same_owner : Owner → Owner → Bool
same_owner (Feed a) (Feed b) = bytes_eq a b
same_owner (Feed a) (Caller b) = false
same_owner (Caller a) (Feed b) = false
same_owner (Caller a) (Caller b) = bytes_eq a b

same_owner-Decides : (a b : Owner) → Decides (same_owner a b) (a ≡ b)
unfolding same_owner
same_owner-Decides (Feed a) (Feed b) = Decides-like _ (λ e. ap (λ x. Feed x) e) (λ e. cc) (bytes_eq-Decides a b)
same_owner-Decides (Feed a) (Caller b) = (λ e. cc, λ e. cc)
same_owner-Decides (Caller a) (Feed b) = (λ e. cc, λ e. cc)
same_owner-Decides (Caller a) (Caller b) = Decides-like _ (λ e. ap (λ x. Caller x) e) (λ e. cc) (bytes_eq-Decides a b)

same_change : RowChange → RowChange → Bool
same_change a b = same_row a.row b.row && same_owner a.owner b.owner

same_change-Decides : (a b : RowChange) → Decides (same_change a b) (a ≡ b)
unfolding same_change
same_change-Decides a b =
    Decides-like _ (λ e. λ i. record { row = e.0 i; owner = e.1 i }) (λ e. (ap (λ (c : RowChange). c.row) e, ap (λ (c : RowChange). c.owner) e))
    (Decides-and _ _ (same_row-Decides a.row b.row) (same_owner-Decides a.owner b.owner))

deciding_all : (xs ys : List RowChange) → (xs ≡ ys) ⊎ ((xs ≡ ys) → ⊥)
deciding_all xs ys =
    elim (pointwise same_change xs ys) as (λ b. pointwise same_change xs ys ≡ b → (xs ≡ ys) ⊎ ((xs ≡ ys) → ⊥)) [
      | true ↦ λ e. inl ((slice_eq-Decides same_change-Decides xs ys _ refl).0 e)
      | false ↦ λ e. inr (not_from_Decides _ (slice_eq-Decides same_change-Decides xs ys _ refl) e)
    ] refl

-- ---- items that keep their keys

module _ {X : Type 0} (key : X → Key) (f : X → X) (keeps : (x : X) → key (f x) ≡ key x) where
  look_up-map : (k : Key) (xs : List X) → look_up key k (map f xs) ≡ option_map f (look_up key k xs)
  look_up-map k [] = refl
  look_up-map k (x ∷ xs) =
      ap (λ l. cond (is_eq (key_cmp k l)) (Some (f x)) (look_up key k (map f xs))) (keeps x)
      ∙ elim (is_eq (key_cmp k (key x))) as (λ b. cond b (Some (f x)) (look_up key k (map f xs)) ≡ option_map f (cond b (Some x) (look_up key k xs))) [ true ↦ refl | false ↦ look_up-map k xs ]

  below-map : (k : Key) (xs : List X) → entries.below_all key_cmp k (keyed key (map f xs)) ≡ entries.below_all key_cmp k (keyed key xs)
  below-map k [] = refl
  below-map k (x ∷ xs) = λ i. is_lt (key_cmp k (keeps x i)) && below-map k xs i

-- ---- the rows that a set leads to

module _ (set : SetRecord) (at : ℤ) (rows : List RowChange) (up : AreChanges rows) where
  undated : (row : Record) (o : Option RowChange) → ((stored : RowChange) → o ≡ Some stored → change_key stored ≡ row_key row)
      → (b : Bool) → (new : RowChange) × Listed set.feed at b row o new × (change_key new ≡ row_key row)
  undated row o has true = (owned_by set.feed row, refl, refl)
  undated row None has false = (owned_by set.feed (dated at row), refl, refl)
  undated row (Some stored) has false =
      elim (deciding (record row { modified = stored.row.modified }) stored.row) as (λ _. (new : RowChange) × Listed set.feed at false row (Some stored) new × (change_key new ≡ row_key row)) [
        | inl same ↦ (stored, inl (same, refl), has stored refl)
        | inr other ↦ (owned_by set.feed (dated at row), inr (other, refl), refl)
      ]

  abbrev NewFor : List SetRow → Type 0
  NewFor listed = (new : List RowChange) × AreChanges new × ((k : Key) → Becomes set at (look_up set_key k listed) (look_up change_key k rows) (look_up change_key k new))

  keeps_key : (stored : RowChange) → change_key (unlisted set at stored) ≡ change_key stored
  keeps_key stored = elim (is_left_out set stored) as (λ b. change_key (cond b (marked at stored) stored) ≡ change_key stored) [ true ↦ refl | false ↦ refl ]

  ascends : (xs : List RowChange) → AreChanges xs → AreChanges (map (unlisted set at) xs)
  ascends [] up = up
  ascends (x ∷ xs) up =
      (λ i. entries.below_all key_cmp (keeps_key x i) (keyed change_key (map (unlisted set at) xs)) && entries.is_sorted key_cmp (keyed change_key (map (unlisted set at) xs)))
      ∙ ap (λ b. b && entries.is_sorted key_cmp (keyed change_key (map (unlisted set at) xs))) (below-map change_key (unlisted set at) keeps_key (change_key x) xs)
      ∙ ap (λ b. entries.below_all key_cmp (change_key x) (keyed change_key xs) && b) (ascends xs (and_second _ _ up))
      ∙ ap (λ b. b && true) (and_first _ _ up)

  new_for : (listed : List SetRow) → NewFor listed
  new_for [] = (map (unlisted set at) rows, ascends rows up, λ k. look_up-map change_key (unlisted set at) keeps_key k rows)
  new_for (listed ∷ later) =
      let rest = new_for later in
      let o = look_up change_key (set_key listed) rows in
      let here = undated listed.row o (λ stored e. found_key change_key (set_key listed) rows stored e) listed.dated in (
        put change_key here.0 rest.0,
        Ascends-put change_key here.0 rest.0 rest.1,
        λ k.
            subst (λ n. Becomes set at (cond (is_eq (key_cmp k (set_key listed))) (Some listed) (look_up set_key k later)) (look_up change_key k rows) n)
            (sym (look_up-put change_key k here.0 rest.0 ∙ ap (λ l. cond (is_eq (key_cmp k l)) (Some here.0) (look_up change_key k rest.0)) here.2))
            (elim (is_eq (key_cmp k (set_key listed))) as (λ b. is_eq (key_cmp k (set_key listed)) ≡ b → Becomes set at (cond b (Some listed) (look_up set_key k later)) (look_up change_key k rows) (cond b (Some here.0) (look_up change_key k rest.0))) [
              | true ↦ λ e. subst (λ l. Listed set.feed at listed.dated listed.row (look_up change_key l rows) here.0) (sym (key_exact k (set_key listed) (equal_from_is_eq _ e))) here.1
              | false ↦ λ _. rest.2 k
            ] refl),
      )

  new_rows : (new : List RowChange) × AreNewRows set at rows new
  new_rows = let new = new_for (rows_in set) in (new.0, record { order = new.1; entries = new.2 })

-- ---- and what it makes

makes : (version : BaseVersion) (set : SetRecord) (at : ℤ) (new : List RowChange) → version.number ≤ last_version → (o : Option PublishFault) → refusal_of set version.rows new ≡ o → (outcome : Outcome) × Makes version at (refusal_of set version.rows new) new outcome
makes version set at new le (Some fault) e = (Refuses fault, inl e)
makes version set at new le None e =
    elim (deciding_all version.rows new) as (λ _. (outcome : Outcome) × Makes version at (refusal_of set version.rows new) new outcome) [
      | inl same ↦ (Unchanged, (e, same))
      | inr other ↦
          let due : IsDue version (refusal_of set version.rows new) new = record { passes = e; differ = other } in
          elim (cases_lt version.number last_version) as (λ _. (outcome : Outcome) × Makes version at (refusal_of set version.rows new) new outcome) [
            | inl lt ↦ (Leads (record version { number = version.number + 1; moment = at; rows = new }), (due, lt, refl))
            | inr ge ↦ (Refuses LastVersion, inr (due, omega (arith, le, ge), refl))
          ]
    ]

pub has_outcome : (version : BaseVersion) (set : SetRecord) (at : ℤ) → IsVersion version → (outcome : Outcome) × Applies version set at outcome
has_outcome version set at is =
    let new = new_rows set at version.rows is.rows in
    let made = makes version set at new.0 is.number (refusal_of set version.rows new.0) refl in
    (made.0, (new.0, new.1, made.1))
