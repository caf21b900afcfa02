-- Tables whose oldest change went into the base.
use Rattle.std.proofs.Common.{◌≡◌, ◌+◌, ◌≤◌, ◌<◌, ◌^◌, ℕ, List, [], ◌∷◌, ◌++◌, ◌==◌, Bool, true, false, cond, not}
use Rattle.std.proofs.Common.{if◌then◌else◌, unwrap_or, Option, None, Some, Equal, refl, sym, ap, ◌∙◌, subst}
use Rattle.std.proofs.Common.{append-nil, arith}
use Rattle.std.specs.FinMap.{from_entries, retain_keys}
use Rattle.std.specs.FinMap.Entries.{find-where_key}
use Rattle.std.specs.List.{AllByRecursion}
use Rattle.item_maps.proofs.ItemLemmas.{same_bytes}
use Rattle.item_maps.specs.Items.{bytes_cmp, is_between}
use Rattle.roster_base.specs.Order.{RiseBy}
use Rattle.version_core.specs.Changes.{AreChanges, change_key}
use Rattle.version_core.specs.Grants.{caller_of}
use Rattle.version_core.specs.Version.{last_version}
use Rattle.version_core.specs.declared.change.BaseVersion.{BaseVersion}
use Rattle.version_core.specs.declared.change.Change.{Change}
use Rattle.version_core.specs.declared.grant_row.GrantRow.{GrantRow}
use Rattle.version_core.specs.declared.mark.MarkRow.{MarkRow}
use Rattle.version_core.specs.declared.row_change.RowChange.{RowChange}
use Rattle.hub_format.specs.Areas.{grants_area}
use Rattle.hub_format.specs.Edits.{moved}
use Rattle.hub_format.specs.Format.{Entry, grants_under, of_changes, own_grants, rows_under, some_grants, where_label}
use Rattle.hub_format.specs.Pieces.{caller_label, key_label, number}
use Rattle.hub_format.proofs.Acts.{Act, Map, puts_act}
use Rattle.hub_format.proofs.EntryMaps.{Alike, alike_map, filled, filled_is, found, found-append, or_else, retained}
use Rattle.hub_format.proofs.EntryMaps.{where-append, where_all, where_none}
use Rattle.hub_format.proofs.Labels.{grants_differ}
use Rattle.hub_format.proofs.Orders.{of_other, of_version}

-- the label isn't one behind the version's number
abbrev pub is_kept : ℕ → List ℕ → Bool
is_kept version label = not (is_between (number version) (number (version + 1)) label)

-- a label of this version, or of none that is cleared
abbrev pub IsOf : ℕ → Entry → Type 0
IsOf version e = (x : List ℕ) × (e.0 ≡ number version ++ x)

pub gone : (version : ℕ) → version + 1 < 2 ^ 64 → (es : List Entry) → AllByRecursion (IsOf version) es → AllByRecursion (λ e. is_kept version e.0 ≡ false) es
gone version fits [] all = tt
gone version fits (e ∷ es) all = (ap (is_kept version) all.0.1 ∙ ap not (of_version version all.0.0 fits), gone version fits es all.1)

pub stays : (version other : ℕ) → version + 1 < 2 ^ 64 → other < 2 ^ 64 → (other ≡ version → ⊥) → (es : List Entry) → AllByRecursion (IsOf other) es → AllByRecursion (λ e. is_kept version e.0 ≡ true) es
stays version other fits others apart [] all = tt
stays version other fits others apart (e ∷ es) all = (ap (is_kept version) all.0.1 ∙ ap not (of_other version other all.0.0 fits others apart), stays version other fits others apart es all.1)

pub rows_are_of : (version : ℕ) (rows : List RowChange) → AllByRecursion (IsOf version) (rows_under (number version) rows)
rows_are_of version [] = tt
rows_are_of version (row ∷ rows) = ((key_label (change_key row), refl), rows_are_of version rows)

pub grants_are_of : (version : ℕ) (grants : List GrantRow) → AllByRecursion (IsOf version) (grants_under version grants)
grants_are_of version [] = tt
grants_are_of version (row ∷ grants) = ((caller_label row.caller, refl), grants_are_of version grants)

pub own_are_of : (version : ℕ) (grants : Option (List GrantRow)) → AllByRecursion (IsOf version) (some_grants version grants)
own_are_of version None = tt
own_are_of version (Some grants) = grants_are_of version grants

-- changes of later versions
abbrev pub Later : ℕ → List Change → Type 0
Later version changes = AllByRecursion (λ change. (version < change.version) × (change.version ≤ last_version)) changes

-- what a version of its own has stays where another is cleared
module _ (own : Change → List Entry) (is_of : (change : Change) → AllByRecursion (IsOf change.version) (own change)) (version : ℕ) (fits : version + 1 < 2 ^ 64) where
  pub kept : (changes : List Change) → Later version changes → where_label (is_kept version) (of_changes own changes) ≡ of_changes own changes
  kept [] later = refl
  kept (change ∷ changes) later =
      let here = later.0 in
      where-append (is_kept version) (of_changes own changes) (own change)
      ∙ ap (λ es. es ++ where_label (is_kept version) (own change)) (kept changes later.1)
      ∙ ap (λ es. of_changes own changes ++ es) (where_all (is_kept version) (own change) (stays version change.version fits (omega (arith, here.0, here.1)) (λ same. absurd (omega (arith, here.0, same))) (own change) (is_of change)))

  pub cleared : (oldest : Change) (changes : List Change) → oldest.version ≡ version → Later version changes → where_label (is_kept version) (of_changes own (oldest ∷ changes)) ≡ of_changes own changes
  cleared oldest changes is later =
      where-append (is_kept version) (of_changes own changes) (own oldest)
      ∙ ap (λ es. es ++ where_label (is_kept version) (own oldest)) (kept changes later)
      ∙ ap (λ es. of_changes own changes ++ es) (where_none (is_kept version) (own oldest) (gone version fits (own oldest) (subst (λ v. AllByRecursion (IsOf v) (own oldest)) is (is_of oldest))))
      ∙ append-nil (of_changes own changes)

-- lists of which a test passes the whole of one and nothing of the other may change places
pub swapped : (p : List ℕ → Bool) (xs ys : List Entry) → where_label p xs ≡ [] → where_label p ys ≡ ys → Alike (xs ++ ys) (ys ++ xs)
swapped p xs ys none all q =
    let alike : (x : List ℕ) → bytes_cmp q x ≡ Equal → p x ≡ p q = λ x tie. ap p (sym (same_bytes q x tie)) in
    let in_xs : None ≡ cond (p q) (found q xs) None = ap (found q) (sym none) ∙ find-where_key bytes_cmp p q alike xs in
    let in_ys : found q ys ≡ cond (p q) (found q ys) None = ap (found q) (sym all) ∙ find-where_key bytes_cmp p q alike ys in
    found-append q xs ys ∙ go (p q) (found q xs) (found q ys) in_xs in_ys ∙ sym (found-append q ys xs)
  where
    left : (o : Option (List ℕ)) → o ≡ or_else o None
    left None = refl
    left (Some v) = refl

    go : (b : Bool) (o r : Option (List ℕ)) → None ≡ cond b o None → r ≡ cond b r None → or_else o r ≡ or_else r o
    go true o r no_o is = ap (λ x. or_else x r) (sym no_o) ∙ left r ∙ ap (or_else r) no_o
    go false o r no_o is = ap (or_else o) is ∙ sym (left o) ∙ ap (λ x. or_else x o) (sym is)

-- what becomes of the base's grants
abbrev pub moved_in : ℕ → List GrantRow → Option (List GrantRow) → Map → Map
moved_in version grants None m = filled (grants_under version grants) m
moved_in version grants (Some others) m = m

pub moved_act : (version : ℕ) (grants : List GrantRow) (others : Option (List GrantRow)) → Act (moved version grants others) (λ area m. if area == grants_area then moved_in version grants others m else m)
moved_act version grants None = puts_act grants_area (grants_under version grants)
moved_act version grants (Some others) = record { on = λ m area. same (area == grants_area) (m area) }
  where
    same : (b : Bool) (m : Map) → m ≡ (if b then m else m)
    same true m = refl
    same false m = refl

module _ (keep : ℕ) (base : BaseVersion) (oldest : Change) (rest : List Change) (marks : List MarkRow)
    (are : AreChanges oldest.rows) (rise : RiseBy caller_of base.grants)
    (later : Later base.number (oldest ∷ rest)) (after_oldest : Later oldest.version rest) where
  fits_oldest : oldest.version + 1 < 2 ^ 64
  fits_oldest = let le = later.0.1 in omega (arith, le)

  fits_base : base.number + 1 < 2 ^ 64
  fits_base = let lt = later.0.0 in let le = later.0.1 in omega (arith, lt, le)

  base_gone : where_label (is_kept base.number) (grants_under base.number base.grants) ≡ []
  base_gone = where_none (is_kept base.number) _ (gone base.number fits_base _ (grants_are_of base.number base.grants))

  oldest_stays : (grants : List GrantRow) → where_label (is_kept base.number) (grants_under oldest.version grants) ≡ grants_under oldest.version grants
  oldest_stays grants = let lt = later.0.0 in let le = later.0.1 in
      where_all (is_kept base.number) _ (stays base.number oldest.version fits_base (omega (arith, le)) (λ same. absurd (omega (arith, lt, same))) _ (grants_are_of oldest.version grants))

  rest_stays : where_label (is_kept base.number) (of_changes own_grants rest) ≡ of_changes own_grants rest
  rest_stays = kept own_grants (λ change. own_are_of change.version change.grants) base.number fits_base rest later.1

  rest_later : where_label (is_kept oldest.version) (of_changes own_grants rest) ≡ of_changes own_grants rest
  rest_later = kept own_grants (λ change. own_are_of change.version change.grants) oldest.version fits_oldest rest after_oldest

  -- the grants of the base and the changes, and those of the next base and the changes left
  pub grants_moved : (others : Option (List GrantRow))
      → retain_keys (moved_in oldest.version base.grants others (from_entries {R = bytes_cmp} ((of_changes own_grants rest ++ some_grants oldest.version others) ++ grants_under base.number base.grants))) (is_kept base.number)
      ≡ from_entries (of_changes own_grants rest ++ grants_under oldest.version (unwrap_or others base.grants))
  grants_moved None =
      let xs = of_changes own_grants rest in
      let old = grants_under base.number base.grants in
      let new = grants_under oldest.version base.grants in
      ap (λ m. retain_keys m (is_kept base.number)) (filled_is new ((xs ++ []) ++ old) (grants_differ oldest.version base.grants rise))
      ∙ retained (is_kept base.number) (new ++ ((xs ++ []) ++ old))
      ∙ ap (from_entries {R = bytes_cmp}) (ap (λ ys. where_label (is_kept base.number) (new ++ (ys ++ old))) (append-nil xs)
      ∙ where-append (is_kept base.number) new (xs ++ old) ∙ ap (λ ys. where_label (is_kept base.number) new ++ ys) (where-append (is_kept base.number) xs old)
      ∙ (λ i. oldest_stays base.grants i ++ (rest_stays i ++ base_gone i)) ∙ ap (λ ys. new ++ ys) (append-nil xs))
      ∙ alike_map (new ++ xs) (xs ++ new) (swapped (is_kept oldest.version) new xs (where_none (is_kept oldest.version) new (gone oldest.version fits_oldest new (grants_are_of oldest.version base.grants))) rest_later)
  grants_moved (Some others) =
      let xs = of_changes own_grants rest in
      let old = grants_under base.number base.grants in
      let new = grants_under oldest.version others in
      retained (is_kept base.number) ((xs ++ new) ++ old)
      ∙ ap (from_entries {R = bytes_cmp}) (where-append (is_kept base.number) (xs ++ new) old
      ∙ ap (λ ys. ys ++ where_label (is_kept base.number) old) (where-append (is_kept base.number) xs new)
      ∙ (λ i. (rest_stays i ++ oldest_stays others i) ++ base_gone i) ∙ append-nil (xs ++ new))
