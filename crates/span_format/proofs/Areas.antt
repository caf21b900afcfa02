-- What clears do to each area.
use Rattle.std.proofs.Common.{◌≡◌, ℕ, List, [], ◌∷◌, ◌==◌, true, false, cond, not, if◌then◌else◌, None, Some, inl, inr}
use Rattle.std.proofs.Common.{refl, sym, subst}
use Rattle.std.specs.FinMap.{retain_keys}
use Rattle.std.proofs.lemmas.Bool.{cases_Bool, eqb-true}
use Rattle.std.specs.Ordering.{eq_by_cmp}
use Rattle.item_maps.specs.Items.{bytes_cmp, is_between}
use Rattle.item_maps.specs.declared.item.Edit.TheVariants.{Clear}
use Rattle.hub_format.specs.Format.{Entry}
use Rattle.hub_format.proofs.Acts.{Act, Map}
use Rattle.hub_format.proofs.EntryMaps.{Alike, found}

abbrev pub cleared_map : ℕ → List ℕ → List ℕ → ℕ → Map → Map
cleared_map k from to area m = if area == k then retain_keys m (λ label. not (is_between from to label)) else m

pub cleared_act : (k : ℕ) (from to : List ℕ) → Act (Clear k from to ∷ []) (cleared_map k from to)
cleared_act k from to = record { on = λ m area. refl }

-- a fact of all areas, by those that either format has
pub by_areas : (P : ℕ → Type 0) → P 0 → P 1 → P 2 → P 3 → P 4 → P 5 → P 6 → P 7 → P 8
    → ((a : ℕ) → (a == 0) ≡ false → (a == 1) ≡ false → (a == 2) ≡ false → (a == 3) ≡ false → (a == 4) ≡ false → (a == 5) ≡ false → (a == 6) ≡ false → (a == 7) ≡ false → (a == 8) ≡ false → P a)
    → (a : ℕ) → P a
by_areas P p0 p1 p2 p3 p4 p5 p6 p7 p8 else_ a =
    at 0 p0 (λ n0. at 1 p1 (λ n1. at 2 p2 (λ n2. at 3 p3 (λ n3. at 4 p4 (λ n4. at 5 p5 (λ n5. at 6 p6 (λ n6. at 7 p7 (λ n7. at 8 p8 (λ n8. else_ a n0 n1 n2 n3 n4 n5 n6 n7 n8)))))))))
  where
    at : (k : ℕ) → P k → ((a == k) ≡ false → P a) → P a
    at k p other = elim (cases_Bool (a == k)) [
      | inl is ↦ subst P (sym (eqb-true a k is)) p
      | inr isnt ↦ other isnt
    ]

-- an entry hides what stands behind it under its label
pub replaced : (e f : Entry) → e.0 ≡ f.0 → Alike (e ∷ f ∷ []) (e ∷ [])
replaced e f same q =
    elim (eq_by_cmp bytes_cmp q e.0) as (λ b. eq_by_cmp bytes_cmp q e.0 ≡ b → cond b (Some e.1) (found q (f ∷ [])) ≡ cond b (Some e.1) None) [
      | true ↦ λ at. refl
      | false ↦ λ at. let away = subst (λ l. eq_by_cmp bytes_cmp q l ≡ false) same at in rw away refl
    ] refl
