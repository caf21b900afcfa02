-- What edits do to each area.
use Rattle.std.proofs.Common.{◌≡◌, ℕ, List, [], ◌∷◌, ◌++◌, ◌==◌, Bool, true, false, not, if◌then◌else◌, inl, inr, refl}
use Rattle.std.proofs.Common.{sym, ap, ◌∙◌, subst}
use Rattle.std.specs.FinMap.{FinMap, insert, retain_keys}
use Rattle.std.proofs.lemmas.Bool.{cases_Bool, eqb-true}
use Rattle.item_maps.specs.Items.{Items, bytes_cmp, is_between}
use Rattle.item_maps.specs.Edits.{after, after_edit}
use Rattle.item_maps.specs.declared.item.Edit.{Edit}
use Rattle.hub_format.specs.Edits.{clear_version, put_at, puts}
use Rattle.hub_format.specs.Format.{Entry}
use Rattle.hub_format.specs.Pieces.{number}
use Rattle.hub_format.proofs.EntryMaps.{filled}
use Rattle.std.specs.Prelude.{◌+◌}

abbrev pub Map : Type 0
Map = FinMap bytes_cmp (List ℕ)

-- the edits do this to the map of each area
pub record Act (edits : List Edit) (f : ℕ → Map → Map) : Type 0 where
  pub on : (m : Items) (area : ℕ) → after edits m area ≡ f area (m area)

pub after-append : (es fs : List Edit) (m : Items) → after (es ++ fs) m ≡ after fs (after es m)
after-append [] fs m = refl
after-append (e ∷ es) fs m = after-append es fs (after_edit e m)

-- one after another
abbrev pub next : (ℕ → Map → Map) → (ℕ → Map → Map) → ℕ → Map → Map
next f g area m = g area (f area m)

abbrev pub put_map : ℕ → Entry → ℕ → Map → Map
put_map k e area m = if area == k then insert m e.0 e.1 else m

abbrev pub puts_map : ℕ → List Entry → ℕ → Map → Map
puts_map k es area m = if area == k then filled es m else m

abbrev pub clear_map : ℕ → ℕ → ℕ → Map → Map
clear_map k version area m = if area == k then retain_keys m (λ label. not (is_between (number version) (number (version + 1)) label)) else m

pub both : {es fs : List Edit} {f g : ℕ → Map → Map} → Act es f → Act fs g → Act (es ++ fs) (next f g)
both {es} {fs} {f} {g} act_f act_g = record { on = λ m area. ap (λ (n : Items). n area) (after-append es fs m) ∙ act_g.on (after es m) area ∙ ap (g area) (act_f.on m area) }

pub put_act : (k : ℕ) (e : Entry) → Act (put_at k e ∷ []) (put_map k e)
put_act k e = record { on = λ m area. refl }

pub clear_act : (k version : ℕ) → Act (clear_version k version ∷ []) (clear_map k version)
clear_act k version = record { on = λ m area. refl }

chosen : (b : Bool) (es : List Entry) (e : Entry) (m : Map) → (if b then filled es (if b then insert m e.0 e.1 else m) else (if b then insert m e.0 e.1 else m)) ≡ (if b then filled (e ∷ es) m else m)
chosen true es e m = refl
chosen false es e m = refl

puts_on : (k : ℕ) (es : List Entry) (m : Items) (area : ℕ) → after (puts k es) m area ≡ puts_map k es area (m area)
puts_on k [] m area = same (area == k)
  where
    same : (b : Bool) → m area ≡ (if b then m area else m area)
    same true = refl
    same false = refl
puts_on k (e ∷ es) m area = puts_on k es (after_edit (put_at k e) m) area ∙ chosen (area == k) es e (m area)

pub puts_act : (k : ℕ) (es : List Entry) → Act (puts k es) (puts_map k es)
puts_act k es = record { on = puts_on k es }

-- a fact of all areas, by those that the format has
pub by_area : (P : ℕ → Type 0) → P 0 → P 1 → P 2 → P 3 → P 4 → P 5 → P 6
    → ((a : ℕ) → (a == 0) ≡ false → (a == 1) ≡ false → (a == 2) ≡ false → (a == 3) ≡ false → (a == 4) ≡ false → (a == 5) ≡ false → (a == 6) ≡ false → P a)
    → (a : ℕ) → P a
by_area P p0 p1 p2 p3 p4 p5 p6 else_ a =
    at 0 p0 (λ n0. at 1 p1 (λ n1. at 2 p2 (λ n2. at 3 p3 (λ n3. at 4 p4 (λ n4. at 5 p5 (λ n5. at 6 p6 (λ n6. else_ a n0 n1 n2 n3 n4 n5 n6)))))))
  where
    at : (k : ℕ) → P k → ((a == k) ≡ false → P a) → P a
    at k p other = elim (cases_Bool (a == k)) [
      | inl is ↦ subst P (sym (eqb-true a k is)) p
      | inr isnt ↦ other isnt
    ]
