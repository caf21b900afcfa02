-- A merge, pick by pick.
use Rattle.std.proofs.Common.{◌≡◌, ℕ, ◌+◌, ◌<◌, ◌≤◌, List, [], ◌∷◌, ◌++◌, Bool, true, false, not, cond, drop, filter}
use Rattle.std.proofs.Common.{length, slice_get, None, Some, refl, sym, ap, subst, ◌∙◌, arith}
use Rattle.std.proofs.lemmas.Bool.{and_from}
use Rattle.std.specs.FinMap.Entries as entries
use Rattle.std.specs.Ordering.{is_lt, ordering_reverse}
use Rattle.std.specs.declared.cmp.Ordering.TheVariants.{Equal, Greater, Less}
use Rattle.reference_rules.proofs.KeyOrder.{and_first, and_second, key_exact, key_total, less_from_is_lt}
use Rattle.roster_types.specs.Keys.{Ascends, key_cmp, keyed, row_key}
use Rattle.roster_types.specs.Records.{Record}
use Rattle.version_core.proofs.LookUps.{below_kept, below_trans}
use Rattle.version_core.proofs.Places.{greater_from_less, less_from_greater}
use Rattle.row_deltas.proofs.StepLemmas.{below_overlaid}
use Rattle.row_deltas.specs.Deltas.{merged, passed}
use Rattle.version_core.specs.Order.{by_order, overlaid, put}
use Rattle.row_merges.specs.Picks.{Pick, is_gone, kept_of, pick_of, pick_of_both}

-- a row below all is put in front
put-first : (row : Record) (rows : List Record) → entries.below_all key_cmp (row_key row) (keyed row_key rows) ≡ true → put row_key row rows ≡ row ∷ rows
put-first row [] below = refl
put-first row (other ∷ rows) below = ap (λ o. by_order o (row ∷ other ∷ rows) (row ∷ rows) (other ∷ put row_key row rows)) (less_from_is_lt _ (and_first _ _ below))

-- a row below all changes stays in front
overlaid-first : (row : Record) (base changes : List Record) → entries.below_all key_cmp (row_key row) (keyed row_key changes) ≡ true → overlaid row_key (row ∷ base) changes ≡ row ∷ overlaid row_key base changes
overlaid-first row base [] below = refl
overlaid-first row base (change ∷ changes) below =
    ap (put row_key change) (overlaid-first row base changes (and_second _ _ below))
    ∙ ap (λ o. by_order o (change ∷ row ∷ overlaid row_key base changes) (change ∷ overlaid row_key base changes) (row ∷ put row_key change (overlaid row_key base changes))) (greater_from_less (row_key row) (row_key change) (less_from_is_lt _ (and_first _ _ below)))

module _ (gone : List (List ℕ)) where
  keeps : Record → Bool
  keeps row = not (is_gone gone row)

  abbrev pub Steps : List Record → List Record → Pick → Type 0
  Steps held puts pick = merged held puts gone ≡ kept_of gone pick ++ merged (passed pick.in_held held) (passed pick.in_puts puts) gone

  -- a held row in front, which is below all that are put
  front : (h : Record) (held puts : List Record) → entries.below_all key_cmp (row_key h) (keyed row_key puts) ≡ true
      → merged (h ∷ held) puts gone ≡ cond (is_gone gone h) [] (h ∷ []) ++ merged held puts gone
  unfolding merged
  front h held puts below =
      elim (is_gone gone h) as (λ b. overlaid row_key (cond (not b) (h ∷ filter (λ row. not (is_gone gone row)) held) (filter (λ row. not (is_gone gone row)) held)) puts ≡ cond b [] (h ∷ []) ++ overlaid row_key (filter (λ row. not (is_gone gone row)) held) puts) [
        | true ↦ refl
        | false ↦ overlaid-first h (filter (λ row. not (is_gone gone row)) held) puts below
      ]

  -- a row that is put in front of all
  put_front : (p : Record) (held puts : List Record) → entries.below_all key_cmp (row_key p) (keyed row_key held) ≡ true → entries.below_all key_cmp (row_key p) (keyed row_key puts) ≡ true
      → merged held (p ∷ puts) gone ≡ p ∷ merged held puts gone
  unfolding merged
  put_front p held puts below below' =
      put-first p (overlaid row_key (filter (λ row. not (is_gone gone row)) held) puts)
      (below_overlaid row_key (row_key p) (filter (λ row. not (is_gone gone row)) held) puts (below_kept row_key (row_key p) (λ row. not (is_gone gone row)) held below) below')

  -- a row that is put in place of the first
  put_over : (h p : Record) (held puts : List Record) → row_key h ≡ row_key p → entries.below_all key_cmp (row_key h) (keyed row_key held) ≡ true → entries.below_all key_cmp (row_key p) (keyed row_key puts) ≡ true
      → key_cmp (row_key p) (row_key h) ≡ Equal → merged (h ∷ held) (p ∷ puts) gone ≡ p ∷ merged held puts gone
  unfolding merged
  put_over h p held puts same below below' equal =
      let rest = filter (λ row. not (is_gone gone row)) held in
      elim (is_gone gone h) as (λ b. put row_key p (overlaid row_key (cond (not b) (h ∷ rest) rest) puts) ≡ p ∷ overlaid row_key rest puts) [
        | true ↦ put-first p (overlaid row_key rest puts)
            (below_overlaid row_key (row_key p) rest puts (below_kept row_key (row_key p) (λ row. not (is_gone gone row)) held (subst (λ k. entries.below_all key_cmp k (keyed row_key held) ≡ true) same below)) below')
        | false ↦
            ap (put row_key p) (overlaid-first h rest puts (subst (λ k. entries.below_all key_cmp k (keyed row_key puts) ≡ true) (sym same) below'))
            ∙ ap (λ o. by_order o (p ∷ h ∷ overlaid row_key rest puts) (p ∷ overlaid row_key rest puts) (h ∷ put row_key p (overlaid row_key rest puts))) equal
      ]

  both_picked : (h p : Record) (held puts : List Record) → Ascends row_key (h ∷ held) → Ascends row_key (p ∷ puts) → Steps (h ∷ held) (p ∷ puts) (pick_of_both h p)
  both_picked h p held puts up up' =
      elim (key_cmp (row_key h) (row_key p)) as (λ r. key_cmp (row_key h) (row_key p) ≡ r → Steps (h ∷ held) (p ∷ puts) (by_order r
      (record { row = h; is_held = true; in_held = true; in_puts = false })
      (record { row = p; is_held = false; in_held = true; in_puts = true })
      (record { row = p; is_held = false; in_held = false; in_puts = true }))) [
        | Less ↦ λ less. front h held (p ∷ puts) (and_from _ _ (ap is_lt less) (below_trans row_key (row_key h) (row_key p) puts less (and_first _ _ up')))
        | Equal ↦ λ same.
            let equal : key_cmp (row_key p) (row_key h) ≡ Equal = key_total.antisymm (row_key p) (row_key h) ∙ ap ordering_reverse same in
            put_over h p held puts (key_exact (row_key h) (row_key p) same) (and_first _ _ up) (and_first _ _ up') equal
        | Greater ↦ λ greater.
            let less = less_from_greater (row_key h) (row_key p) greater in
            put_front p (h ∷ held) puts (and_from _ _ (ap is_lt less) (below_trans row_key (row_key p) (row_key h) held less (and_first _ _ up))) (and_first _ _ up')
      ] refl

  pub pick_steps : (held puts : List Record) (pick : Pick) → Ascends row_key held → Ascends row_key puts → pick_of (slice_get held 0) (slice_get puts 0) ≡ Some pick → Steps held puts pick
  pick_steps [] [] pick up up' e = cc
  pick_steps (h ∷ held) [] pick up up' e =
      let is : record { row = h; is_held = true; in_held = true; in_puts = false } ≡ pick = cc in
      subst (Steps (h ∷ held) []) is (front h held [] refl)
  pick_steps [] (p ∷ puts) pick up up' e =
      let is : record { row = p; is_held = false; in_held = false; in_puts = true } ≡ pick = cc in
      subst (Steps [] (p ∷ puts)) is (put_front p [] puts refl (and_first _ _ up'))
  pick_steps (h ∷ held) (p ∷ puts) pick up up' e =
      let is : pick_of_both h p ≡ pick = cc in
      subst (Steps (h ∷ held) (p ∷ puts)) is (both_picked h p held puts up up')

  pub pick_ends : (held puts : List Record) → pick_of (slice_get held 0) (slice_get puts 0) ≡ None → merged held puts gone ≡ []
  unfolding merged
  pick_ends [] [] e = refl
  pick_ends (h ∷ held) [] e = cc
  pick_ends [] (p ∷ puts) e = cc
  pick_ends (h ∷ held) (p ∷ puts) e = cc

shorter : (rows : List Record) → length (drop 1 rows) ≤ length rows
shorter [] = omega arith
shorter (row ∷ rows) = omega arith

-- a pick takes a row from one of the lists
pub pick_fewer : (held puts : List Record) (pick : Pick) → pick_of (slice_get held 0) (slice_get puts 0) ≡ Some pick → length (passed pick.in_held held) + length (passed pick.in_puts puts) < length held + length puts
pick_fewer [] [] pick e = cc
pick_fewer (h ∷ held) [] pick e =
    let is : record { row = h; is_held = true; in_held = true; in_puts = false } ≡ pick = cc in
    subst (λ (pick : Pick). length (passed pick.in_held (h ∷ held)) + length (passed pick.in_puts []) < length (h ∷ held) + 0) is (omega arith)
pick_fewer [] (p ∷ puts) pick e =
    let is : record { row = p; is_held = false; in_held = false; in_puts = true } ≡ pick = cc in
    subst (λ (pick : Pick). length (passed pick.in_held []) + length (passed pick.in_puts (p ∷ puts)) < 0 + length (p ∷ puts)) is (omega arith)
pick_fewer (h ∷ held) (p ∷ puts) pick e =
    let is : pick_of_both h p ≡ pick = cc in
    subst (λ (pick : Pick). length (passed pick.in_held (h ∷ held)) + length (passed pick.in_puts (p ∷ puts)) < length (h ∷ held) + length (p ∷ puts)) is
    (elim (key_cmp (row_key h) (row_key p)) as (λ r. (λ (pick : Pick). length (passed pick.in_held (h ∷ held)) + length (passed pick.in_puts (p ∷ puts)) < length (h ∷ held) + length (p ∷ puts)) (by_order r
    (record { row = h; is_held = true; in_held = true; in_puts = false })
    (record { row = p; is_held = false; in_held = true; in_puts = true })
    (record { row = p; is_held = false; in_held = false; in_puts = true }))) [ Less ↦ omega arith | Equal ↦ omega arith | Greater ↦ omega arith ])
