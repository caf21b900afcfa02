-- The list of a collection without a filter and an order: the rows as they stand.
use Rattle.std.proofs.Common.{◌≡◌, List, [], ◌∷◌, Bool, true, false, ◌&&◌, cond, filter, None, Some, unwrap_or, refl}
use Rattle.std.proofs.Common.{ap, ◌∙◌, arith}
use Rattle.std.proofs.lemmas.Bool.{and_from}
use Rattle.std.proofs.lemmas.Bool.Decides.{nat_tests}
use Rattle.std.specs.FinMap.Entries as entries
use Rattle.hub_spec.specs.views.Lists.{belongs, is_listed, list_of}
use Rattle.filter_grammar.specs.rows.Orders.{arranged, by_id, by_name, put_in}
use Rattle.hub_spec.specs.views.Pages.{IsPlain, whole}
use Rattle.hub_spec.specs.views.Rules.{rule_of}
use Rattle.filter_grammar.specs.declared.query.Order.TheVariants.{Asc}
use Rattle.filter_grammar.specs.declared.query.Query.{Query}
use Rattle.reference_rules.proofs.KeyOrder.{and_first, and_second, ids_less, less_from_is_lt, not_back}
use Rattle.row_deltas.specs.Deltas.{AreOf}
use Rattle.roster_types.specs.Keys.{Ascends, Key, is_of_kind, key_cmp, keyed, row_key}
use Rattle.roster_types.specs.Records.{Record}
use Rattle.roster_values.specs.declared.kind.Kind.{Kind}
use Rattle.roster_values.specs.Kinds.{place_of_kind}

below_kept : (k : Key) (p : Record → Bool) (rows : List Record) → entries.below_all key_cmp k (keyed row_key rows) ≡ true → entries.below_all key_cmp k (keyed row_key (filter p rows)) ≡ true
below_kept k p [] e = e
below_kept k p (row ∷ rows) e =
    elim (p row) as (λ b. entries.below_all key_cmp k (keyed row_key (cond b (row ∷ filter p rows) (filter p rows))) ≡ true) [
      | true ↦ and_from _ _ (and_first _ _ e) (below_kept k p rows (and_second _ _ e))
      | false ↦ below_kept k p rows (and_second _ _ e)
    ]

-- rows that are left of rows in order are in order
pub ascends_kept : (p : Record → Bool) (rows : List Record) → Ascends row_key rows → Ascends row_key (filter p rows)
ascends_kept p [] up = up
ascends_kept p (row ∷ rows) up =
    elim (p row) as (λ b. Ascends row_key (cond b (row ∷ filter p rows) (filter p rows))) [
      | true ↦ and_from _ _ (below_kept (row_key row) p rows (and_first _ _ up)) (ascends_kept p rows (and_second _ _ up))
      | false ↦ ascends_kept p rows (and_second _ _ up)
    ]

pub are_of_kept : (kind : Kind) (rows : List Record) → AreOf kind (filter (is_of_kind kind) rows)
are_of_kept kind [] = tt
are_of_kept kind (row ∷ rows) =
    elim (is_of_kind kind row) as (λ b. is_of_kind kind row ≡ b → AreOf kind (cond b (row ∷ filter (is_of_kind kind) rows) (filter (is_of_kind kind) rows))) [
      | true ↦ λ is. (is, are_of_kept kind rows)
      | false ↦ λ _. are_of_kept kind rows
    ] refl

pub same_place : (kind : Kind) (row other : Record) → is_of_kind kind row ≡ true → is_of_kind kind other ≡ true → place_of_kind row.kind ≡ place_of_kind other.kind
same_place kind row other e f = grind (arith, nat_tests)

in_front : (kind : Kind) (row : Record) (rows : List Record) → is_of_kind kind row ≡ true → AreOf kind rows → entries.below_all key_cmp (row_key row) (keyed row_key rows) ≡ true → put_in (by_id Asc) row rows ≡ row ∷ rows
in_front kind row [] is are below = refl
in_front kind row (other ∷ rows) is are below =
    let less = ids_less _ _ row.id other.id (same_place kind row other is are.0) (less_from_is_lt _ (and_first _ _ below)) in
    ap (λ b. cond b (other ∷ put_in (by_id Asc) row rows) (row ∷ other ∷ rows)) (not_back row.id other.id less)

-- rows of a kind that stand in order are as they are when they are arranged by id
pub arranged_by_id : (kind : Kind) (rows : List Record) → AreOf kind rows → Ascends row_key rows → arranged (by_id Asc) rows ≡ rows
unfolding arranged
arranged_by_id kind [] are up = refl
arranged_by_id kind (row ∷ rows) are up =
    ap (put_in (by_id Asc) row) (arranged_by_id kind rows are.1 (and_second _ _ up)) ∙ in_front kind row rows are.0 are.1 (and_first _ _ up)

filter_alike : (p q : Record → Bool) (rows : List Record) → ((row : Record) → p row ≡ q row) → filter p rows ≡ filter q rows
filter_alike p q [] same = refl
filter_alike p q (row ∷ rows) same = λ i. cond (same row i) (row ∷ filter_alike p q rows same i) (filter_alike p q rows same i)

is_listed-whole : (kind : Kind) (rows : List Record) (query : Query) → query.test ≡ None → (row : Record) → is_listed rows (whole kind) query row ≡ is_of_kind kind row
unfolding belongs rule_of
is_listed-whole kind rows query none row =
    rw none (elim (is_of_kind kind row) as (λ b. (((b && true) && true) && true) ≡ b) [ true ↦ refl | false ↦ refl ])

pub list_of-whole : (kind : Kind) (rows : List Record) (query : Query) → IsPlain query → Ascends row_key rows → list_of rows (whole kind) query ≡ Some (filter (is_of_kind kind) rows)
unfolding list_of rule_of
list_of-whole kind rows query plain up =
    let same = filter_alike (is_listed rows (whole kind) query) (is_of_kind kind) rows (is_listed-whole kind rows query plain.test) in
    let sorting = ap (λ o. by_name kind (unwrap_or query.order_by Asc) o) plain.sort ∙ ap (λ o. by_id (unwrap_or o Asc)) plain.order in
    ap (λ xs. Some xs) (
    ap (λ s. arranged s (filter (is_listed rows (whole kind) query) rows)) sorting
    ∙ ap (arranged (by_id Asc)) same
    ∙ arranged_by_id kind (filter (is_of_kind kind) rows) (are_of_kept kind rows) (ascends_kept (is_of_kind kind) rows up)
    )
