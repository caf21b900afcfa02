-- The target of a link, put together from its parts.
use Rattle.std.proofs.Common.{◌≡◌, ℕ, List, ◌++◌, Option, Some, None, codes, decimal, option_map, refl, ap, sym, ◌∙◌}
use Rattle.std.proofs.Common.{append_assoc}
use Rattle.filter_grammar.specs.declared.query.Query.{Query}
use Rattle.rest_paths.specs.Paths.{PathParts}
use Rattle.hub_spec.specs.views.Links.{base_for, base_parameter, given_parameter, number_parameter, order_word}
use Rattle.hub_spec.specs.views.Links.{path_text, target}
use Rattle.query_pages.specs.Targets.{base_text, given_text, manner_text, paging_text}

given_is : (name : List ℕ) (value : Option (List ℕ)) → given_text (codes "&" ++ name ++ codes "=") value ≡ given_parameter name value
given_is name None = refl
given_is name (Some value) = refl

-- four pieces behind a text, at once or one after another
four : (text a b c d : List ℕ) → text ++ (a ++ b ++ c ++ d) ≡ text ++ a ++ b ++ c ++ d
four text a b c d =
    sym (append_assoc text (a ++ b ++ c) d) ∙ ap (λ xs. xs ++ d) (sym (append_assoc text (a ++ b) c) ∙ ap (λ xs. xs ++ c) (sym (append_assoc text a b)))

paged : (text : List ℕ) (limit offset : ℕ) → text ++ paging_text limit offset
    ≡ text ++ codes "?" ++ number_parameter (codes "limit") limit ++ codes "&" ++ number_parameter (codes "offset") offset
paged text limit offset =
    let one = number_parameter (codes "limit") limit in
    let two = number_parameter (codes "offset") offset in
    sym (append_assoc text (codes "?" ++ one) (codes "&" ++ two))
    ∙ sym (append_assoc (text ++ (codes "?" ++ one)) (codes "&") two)
    ∙ ap (λ xs. xs ++ codes "&" ++ two) (sym (append_assoc text (codes "?") one))

in_manner : (text : List ℕ) (query : Query) → text ++ manner_text query
    ≡ text ++ given_parameter (codes "sort") query.sort ++ given_parameter (codes "orderBy") (option_map order_word query.order_by)
    ++ given_parameter (codes "filter") query.filter ++ given_parameter (codes "fields") query.fields
in_manner text query =
    rw (
      four text (given_text (codes "&sort=") query.sort) (given_text (codes "&orderBy=") (option_map order_word query.order_by)) (given_text (codes "&filter=") query.filter) (given_text (codes "&fields=") query.fields),
      given_is (codes "sort") query.sort,
      given_is (codes "orderBy") (option_map order_word query.order_by),
      given_is (codes "filter") query.filter,
      given_is (codes "fields") query.fields,
    ) refl

base_is : (base : Option ℕ) → base_text base ≡ base_parameter base
base_is None = refl
base_is (Some n) = refl

-- a target is its path, which page is asked for, how the list is asked for, the base and the version
pub target_is : (path : PathParts) (query : Query) (version offset : ℕ)
    → path_text path ++ paging_text query.limit offset ++ manner_text query ++ base_text (base_for path.route query.since) ++ (codes "&hubVersion=" ++ decimal version) ≡ target path query version offset
unfolding target
target_is path query version offset =
    let front = path_text path ++ paging_text query.limit offset in
    let base = base_for path.route query.since in
    sym (append_assoc (front ++ manner_text query ++ base_text base) (codes "&") (number_parameter (codes "hubVersion") version))
    ∙ ap (λ xs. front ++ manner_text query ++ xs ++ codes "&" ++ number_parameter (codes "hubVersion") version) (base_is base)
    ∙ ap (λ xs. xs ++ base_parameter base ++ codes "&" ++ number_parameter (codes "hubVersion") version)
    (ap (λ xs. xs ++ manner_text query) (paged (path_text path) query.limit offset)
    ∙ in_manner (path_text path ++ codes "?" ++ number_parameter (codes "limit") query.limit ++ codes "&" ++ number_parameter (codes "offset") offset) query)
