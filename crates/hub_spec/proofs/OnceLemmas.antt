-- A list has no row twice.
use Rattle.std.proofs.Common.{◌≡◌, List, [], ◌∷◌, true, false, ◌&&◌, filter, map, Some, refl, sym, ap, ◌∙◌}
use Rattle.std.proofs.lemmas.Bool.Decides.{Decides-eqb, Decides-like, Decides-and}
use Rattle.std.proofs.lemmas.List.Sorted.{IsPermutation-map}
use Rattle.std.proofs.lemmas.Map.Keys.{IsDistinct-IsPermutation}
use Rattle.std.proofs.lemmas.Slice.Eq.{bytes_eq-Decides}
use Rattle.std.specs.Bool.{Decides}
use Rattle.std.specs.FinMap.Entries as entries
use Rattle.std.specs.List.{AllByRecursion, IsDistinct}
use Rattle.filter_grammar.specs.declared.query.Query.{Query}
use Rattle.rest_paths.specs.Paths.{PathParts}
use Rattle.hub_spec.proofs.ArrangedLemmas.{list-permutes}
use Rattle.hub_spec.proofs.ListLemmas.{ascends_kept}
use Rattle.hub_spec.specs.views.Lists.{is_listed, list_of}
use Rattle.hub_spec.specs.views.SameKeys.{same_key}
use Rattle.reference_rules.proofs.KeyOrder.{and_first, and_second, less_from_is_lt}
use Rattle.roster_types.specs.Keys.{Ascends, Key, key_cmp, keyed, row_key}
use Rattle.roster_types.specs.Records.{Record}
use Rattle.version_core.proofs.PutLemmas.{key_same}

same_key-Decides : (a b : Key) → Decides (same_key a b) (a ≡ b)
same_key-Decides a b =
    Decides-like _ (λ e. λ i. (e.0 i, e.1 i)) (λ e. (ap (λ (k : Key). k.0) e, ap (λ (k : Key). k.1) e)) (Decides-and _ _ (Decides-eqb a.0 b.0) (bytes_eq-Decides a.1 b.1))

flips : (a b : Key) → same_key a b ≡ same_key b a
flips a b =
    elim (same_key a b) as (λ x. same_key a b ≡ x → x ≡ same_key b a) [
      | true ↦ λ e. sym ((same_key-Decides b a).1 (sym ((same_key-Decides a b).0 e)))
      | false ↦ λ e. elim (same_key b a) as (λ y. same_key b a ≡ y → false ≡ y) [
        | true ↦ λ f. sym e ∙ (same_key-Decides a b).1 (sym ((same_key-Decides b a).0 f))
        | false ↦ λ _. refl
      ] refl
    ] refl

differs : (k l : Key) → entries.below_all key_cmp k ((l, l) ∷ []) ≡ true → same_key k l ≡ false
differs k l below =
    elim (same_key k l) as (λ x. same_key k l ≡ x → x ≡ false) [
      | true ↦ λ e.
          let less = less_from_is_lt (key_cmp k l) (and_first _ _ below) in
          let tied = ap (key_cmp k) (sym ((same_key-Decides k l).0 e)) ∙ key_same k in
          let both = sym less ∙ tied in
          cc
      | false ↦ λ _. refl
    ] refl

differ_all : (k : Key) (rows : List Record) → entries.below_all key_cmp k (keyed row_key rows) ≡ true → AllByRecursion (λ l. same_key k l ≡ false) (map row_key rows)
differ_all k [] below = tt
differ_all k (row ∷ rows) below = (differs k (row_key row) (ap (λ b. b && true) (and_first _ _ below)), differ_all k rows (and_second _ _ below))

distinct : (rows : List Record) → Ascends row_key rows → IsDistinct same_key (map row_key rows)
unfolding IsDistinct
distinct [] up = tt
distinct (row ∷ rows) up = (differ_all (row_key row) rows (and_first _ _ up), distinct rows (and_second _ _ up))

pub list-distinct : (rows list : List Record) (path : PathParts) (query : Query) → Ascends row_key rows → list_of rows path query ≡ Some list → IsDistinct same_key (map row_key list)
list-distinct rows list path query up is =
    IsDistinct-IsPermutation same_key flips _ _ (IsPermutation-map row_key _ _ (list-permutes rows list path query is)) (distinct (filter (is_listed rows path query) rows) (ascends_kept (is_listed rows path query) rows up))
