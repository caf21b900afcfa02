-- Labels stand in the order of keys, and differ where grants do.
use Rattle.std.proofs.Common.{◌≡◌, ◌≢◌, ℕ, List, [], ◌∷◌, ◌++◌, false, map, None, Less, Equal, refl, ap, ◌∙◌, subst}
use Rattle.std.specs.List.{AllByRecursion}
use Rattle.std.specs.List.Sorted.{IsStrictlySortedBy}
use Rattle.std.specs.Ordering.{eq_by_cmp, is_eq}
use Rattle.std.proofs.lemmas.Bool.{false_from_ne_true}
use Rattle.std.proofs.lemmas.Cmp.{nat_list_cmp_total, tied_itself}
use Rattle.item_maps.proofs.ItemLemmas.{tied_same}
use Rattle.item_maps.specs.Items.{bytes_cmp}
use Rattle.roster_base.specs.Order.{RiseBy}
use Rattle.roster_types.specs.Keys.{Key, key_cmp}
use Rattle.version_core.specs.Grants.{caller_of}
use Rattle.version_core.specs.declared.grant_row.GrantRow.{GrantRow}
use Rattle.hub_format.specs.Format.{grants_under}
use Rattle.hub_format.specs.Pieces.{caller_label, key_label, number}
use Rattle.hub_format.proofs.EntryMaps.{Differ, found}
use Rattle.hub_format.proofs.Orders.{behind}

-- labels in the order of keys, behind one prefix
pub ordered : (prefix : List ℕ) (k l : Key) → bytes_cmp (prefix ++ key_label k) (prefix ++ key_label l) ≡ key_cmp k l
unfolding key_cmp
ordered prefix k l = behind prefix (key_label k) (key_label l)

-- a list that ends with a 0 has one beginning
pub same_caller : (a b : List ℕ) → caller_label a ≡ caller_label b → a ≡ b
same_caller [] [] same = refl
same_caller [] (y ∷ []) same = cc
same_caller [] (y ∷ z ∷ b) same = cc
same_caller (x ∷ []) [] same = cc
same_caller (x ∷ z ∷ a) [] same = cc
same_caller (x ∷ a) (y ∷ b) same =
    let head : x ≡ y = cc in
    let rest : caller_label a ≡ caller_label b = cc in
    λ i. head i ∷ same_caller a b rest i

less_apart : (a b : List ℕ) → bytes_cmp a b ≡ Less → a ≢ b
less_apart a b less same = let e : bytes_cmp a b ≡ Equal = subst (λ c. bytes_cmp a c ≡ Equal) same (tied_itself nat_list_cmp_total a) in cc

pub grants_differ : (version : ℕ) (grants : List GrantRow) → RiseBy caller_of grants → Differ (grants_under version grants)
unfolding IsStrictlySortedBy
grants_differ version [] rise = tt
grants_differ version (row ∷ grants) rise = (none grants rise.0, grants_differ version grants rise.1)
  where
    none : (others : List GrantRow) → AllByRecursion (λ caller. bytes_cmp row.caller caller ≡ Less) (map caller_of others) → found (number version ++ caller_label row.caller) (grants_under version others) ≡ None
    none [] all = refl
    none (other ∷ others) all =
        let apart : eq_by_cmp bytes_cmp (number version ++ caller_label row.caller) (number version ++ caller_label other.caller) ≡ false =
        ap is_eq (behind (number version) (caller_label row.caller) (caller_label other.caller))
        ∙ false_from_ne_true _ (λ tie. less_apart row.caller other.caller all.0 (same_caller row.caller other.caller (tied_same _ _ tie))) in
        rw apart (none others all.1)
