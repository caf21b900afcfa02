-- Pages joined, and what a cut looks at.
use Rattle.std.proofs.Common.{◌≡◌, Some, option_map, ℕ, zero, suc, ◌+◌, ◌*◌, ◌≤◌, List, [], ◌∷◌, ◌++◌, drop, length}
use Rattle.std.proofs.Common.{take, refl, sym, ap, ◌∙◌, arith}
use Rattle.std.proofs.lemmas.List.{take_all}
use Rattle.std.specs.Option.{option_map_or}
use Rattle.hub_spec.specs.views.Cuts.{cut, cut_of, no_rows}
use Rattle.filter_grammar.specs.declared.query.Query.{Query}
use Rattle.rest_paths.specs.Paths.{PathParts}
use Rattle.hub_spec.specs.views.Lists.{list_of}
use Rattle.hub_spec.specs.views.Pages.{joined, page_of, page_of_list, pages_joined, rows_shown, slice}
use Rattle.roster_types.specs.Records.{Record}
use Rattle.version_core.specs.Changes.{rows_of}
use Rattle.version_core.specs.Grants.{grant_of}
use Rattle.version_core.specs.declared.change.BaseVersion.{BaseVersion}
use Rattle.version_core.specs.declared.grant_row.GrantRow.{GrantRow}

no_items : {A : Type 0} (n : ℕ) → let none : List A = [] in take n none ≡ none
no_items zero = refl
no_items (suc n) = refl

take_both : {A : Type 0} (n m : ℕ) (xs : List A) → take n xs ++ take m (drop n xs) ≡ take (n + m) xs
take_both zero m xs = ap (λ k. take k xs) less
  where
    less : m ≡ zero + m
    less = omega arith
take_both {A} (suc n) m [] = no_items {A = A} m ∙ sym (no_items {A = A} (suc n + m))
take_both (suc n) m (x ∷ xs) = ap (λ ys. x ∷ ys) (take_both n m xs) ∙ ap (λ k. take k (x ∷ xs)) more
  where
    more : suc (n + m) ≡ suc n + m
    more = omega arith

joined_take : {A : Type 0} (limit n : ℕ) (xs : List A) → joined limit n xs ≡ take (n * limit) xs
joined_take limit zero xs = ap (λ k. take k xs) none
  where
    none : 0 ≡ zero * limit
    none = omega arith
joined_take limit (suc n) xs = ap (λ ys. ys ++ slice limit (n * limit) xs) (joined_take limit n xs) ∙ take_both (n * limit) limit xs ∙ ap (λ k. take k xs) (more n limit)
  where
    more : (n m : ℕ) → n * m + m ≡ suc n * m
    more n m = grind arith

-- the pages of a list, joined, are the list
pub joined-all : (limit n : ℕ) (xs : List Record) → length xs ≤ n * limit → joined limit n xs ≡ xs
joined-all limit n xs enough = joined_take limit n xs ∙ take_all (n * limit) xs enough

page_at : (rows list : List Record) (version : ℕ) (path : PathParts) (query : Query) (offset : ℕ) → list_of rows path query ≡ Some list
    → rows_shown (page_of rows version path (record query { offset = offset })) ≡ slice query.limit offset list
unfolding list_of
page_at rows list version path query offset is = ap (λ found. rows_shown (option_map (page_of_list path (record query { offset = offset }) version) found)) is

pages_are : (rows list : List Record) (version : ℕ) (path : PathParts) (query : Query) → list_of rows path query ≡ Some list
    → (n : ℕ) → pages_joined rows version path query n ≡ joined query.limit n list
pages_are rows list version path query is zero = refl
pages_are rows list version path query is (suc n) =
    ap (λ front. front ++ rows_shown (page_of rows version path (record query { offset = n * query.limit }))) (pages_are rows list version path query is n)
    ∙ ap (λ page. joined query.limit n list ++ page) (page_at rows list version path query (n * query.limit) is)

-- and so are the pages of a path and a query
pub pages-all : (rows list : List Record) (version : ℕ) (path : PathParts) (query : Query) → list_of rows path query ≡ Some list
    → (n : ℕ) → length list ≤ n * query.limit → pages_joined rows version path query n ≡ list
pages-all rows list version path query is n enough = pages_are rows list version path query is n ∙ joined-all query.limit n list enough

-- a cut looks at the rows and the grant alone
pub same_cut : (one other : BaseVersion) (token : List ℕ) → rows_of one.rows ≡ rows_of other.rows → grant_of token one.grants ≡ grant_of token other.grants → cut one token ≡ cut other token
same_cut one other token rows grant = λ i. option_map_or (λ (row : GrantRow). cut_of row.grant (rows i)) (grant i) no_rows
