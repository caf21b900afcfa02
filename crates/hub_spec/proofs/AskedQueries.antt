-- The queries of a consumer's requests, which name numbers, read again.
use Rattle.std.proofs.Common.{◌≡◌, ℕ, ◌<◌, ◌≤◌, ◌^◌, ◌==◌, List, [], ◌∷◌, ◌++◌, true, false, ◌&&◌, Option, None, Some}
use Rattle.std.proofs.Common.{Result, Ok, map, min, refl, ap, ◌∙◌, codes, arith}
use Rattle.std.proofs.lemmas.Bool.Decides.{nat_tests}
use Rattle.std.specs.Fmt.{decimal}
use Rattle.std.specs.List.{AllByRecursion, list_all, list_any}
use Rattle.std.specs.Prelude.{IfSome, count_by, find, is_none, is_some, nat_lt, option_and_then, option_map}
use Rattle.filter_grammar.specs.Counts.{count_of}
use Rattle.filter_grammar.specs.Parameters.{all_parameters, given, has_good_escapes, is_of, is_repeated, is_text_pair}
use Rattle.filter_grammar.specs.Queries.{has_choice, has_unknown_sort, limit_of, offset_of, only_of, order_of, pin_in}
use Rattle.filter_grammar.specs.Queries.{query_of, since_of, test_of, version_of}
use Rattle.filter_grammar.specs.declared.fault.QueryFault.{QueryFault}
use Rattle.filter_grammar.specs.declared.parameter.Parameter.{Parameter}
use Rattle.filter_grammar.specs.declared.parameter.Parameter.TheVariants as parameter
use Rattle.filter_grammar.specs.declared.query.Query.{Query}
use Rattle.form_urlencoded.proofs.FormLemmas.{raw_pairs-nil}
use Rattle.form_urlencoded.specs.Form as form
use Rattle.hub_spec.proofs.QueryLemmas.{IsSafe, count_of-decimal, form_text, is_apart, number_safe, pair_first}
use Rattle.hub_spec.proofs.QueryLemmas.{pair_last, path_of-whole, plain_decode}
use Rattle.hub_spec.specs.requests.PageRequests.{CanAsk, page_path, page_request}
use Rattle.hub_spec.specs.requests.Requests.{query_for_path, query_or_cause, wanted_by}
use Rattle.hub_spec.specs.rules.Asking.{Asking, asking, query_for}
use Rattle.rest_paths.specs.Paths.{path_of}
use Rattle.roster_base.specs.Reading.{◌>>=◌}
use Rattle.roster_values.specs.declared.kind.Kind.{Kind}
use Rattle.status_info.specs.declared.request.Echo.{Echo}
use Rattle.status_info.specs.declared.request.MarkField.TheVariants.{Nothing}
use Rattle.status_info.specs.declared.request.Verb.TheVariants.{Get}

-- ---- names with numbers

-- joined by `&`
abbrev pub joined : List (List ℕ × ℕ) → List ℕ
joined [] = []
joined (x ∷ []) = x.0 ++ 61 ∷ decimal x.1
joined (x ∷ y ∷ ns) = (x.0 ++ 61 ∷ decimal x.1) ++ 38 ∷ joined (y ∷ ns)

abbrev pair_of : List ℕ × ℕ → List ℕ × List ℕ
pair_of x = (x.0, decimal x.1)

abbrev IsShort : ℕ → Type 0
IsShort n = n < 10 ^ 18

-- a plain name, and a number that is short enough to be read
abbrev IsNamed : List ℕ × ℕ → Type 0
IsNamed x = IsSafe x.0 × (list_all is_apart x.0 ≡ true) × IsSafe (x.0 ++ 61 ∷ decimal x.1) × IsShort x.1

raw : (ns : List (List ℕ × ℕ)) → AllByRecursion IsNamed ns → form.raw_pairs (joined ns) ≡ map pair_of ns
raw [] are = raw_pairs-nil
raw (x ∷ []) are = pair_last x.0 (decimal x.1) are.0.2 are.0.1
raw (x ∷ y ∷ ns) are = pair_first x.0 (decimal x.1) are.0.2 are.0.1 (joined (y ∷ ns)) ∙ ap (λ pairs. pair_of x ∷ pairs) (raw (y ∷ ns) are.1)

parsed : (ns : List (List ℕ × ℕ)) → AllByRecursion IsNamed ns → form.parse (joined ns) ≡ map pair_of ns
parsed ns are = ap (map (λ (name, value). (form.decode name, form.decode value))) (raw ns are) ∙ decoded ns are
  where
    one : (x : List ℕ × ℕ) → IsNamed x → ◌≡◌ {A = List ℕ × List ℕ} (form.decode x.0, form.decode (decimal x.1)) (x.0, decimal x.1)
    one x is = λ i. (plain_decode x.0 is.0 i, plain_decode (decimal x.1) (number_safe x.1 is.3) i)

    decoded : (ns : List (List ℕ × ℕ)) → AllByRecursion IsNamed ns → map (λ (name, value). (form.decode name, form.decode value)) (map pair_of ns) ≡ map pair_of ns
    decoded [] are = refl
    decoded (x ∷ ns) are = λ i. one x are.0 i ∷ decoded ns are.1 i

good : (ns : List (List ℕ × ℕ)) → AllByRecursion IsNamed ns → has_good_escapes (joined ns) ≡ true
unfolding has_good_escapes
good ns are = ap (list_all is_text_pair) (raw ns are) ∙ each ns are
  where
    each : (ns : List (List ℕ × ℕ)) → AllByRecursion IsNamed ns → list_all is_text_pair (map pair_of ns) ≡ true
    each [] are = refl
    each (x ∷ ns) are = λ i. (form_text x.0 are.0.0 i && form_text (decimal x.1) (number_safe x.1 are.0.3) i) && each ns are.1 i

-- ---- the numbers of a request: the base is named where it asks for what differs, and the version where it is pinned

abbrev named : List ℕ → Option ℕ → List (List ℕ × ℕ)
named name None = []
named name (Some n) = (name, n) ∷ []

abbrev pub numbers : ℕ → ℕ → Option ℕ → Option ℕ → List (List ℕ × ℕ)
numbers limit offset since pin = (codes "limit", limit) ∷ (codes "offset", offset) ∷ (named (codes "hubSince") since ++ named (codes "hubVersion") pin)

-- what they give the parameters
abbrev values : ℕ → ℕ → Option ℕ → Option ℕ → Parameter → Option (List ℕ)
values limit offset since pin parameter.Limit = Some (decimal limit)
values limit offset since pin parameter.Offset = Some (decimal offset)
values limit offset since pin parameter.HubVersion = option_map (λ n. decimal n) pin
values limit offset since pin parameter.HubSince = option_map (λ n. decimal n) since
values limit offset since pin p = None

module _ (limit offset : ℕ) (limit_short : IsShort limit) (offset_short : IsShort offset) where
  are_named : (since pin : Option ℕ) → IfSome since IsShort → IfSome pin IsShort → AllByRecursion IsNamed (numbers limit offset since pin)
  are_named since pin s p = ((refl, refl, number_safe limit limit_short, limit_short), ((refl, refl, number_safe offset offset_short, offset_short), behind since pin s p))
    where
      behind : (since pin : Option ℕ) → IfSome since IsShort → IfSome pin IsShort → AllByRecursion IsNamed (named (codes "hubSince") since ++ named (codes "hubVersion") pin)
      behind None None s p = tt
      behind None (Some n) s p = ((refl, refl, number_safe n p, p), tt)
      behind (Some m) None s p = ((refl, refl, number_safe m s, s), tt)
      behind (Some m) (Some n) s p = ((refl, refl, number_safe m s, s), ((refl, refl, number_safe n p, p), tt))

  module _ (since pin : Option ℕ) (are : AllByRecursion IsNamed (numbers limit offset since pin)) where
    gives : (p : Parameter) → given (joined (numbers limit offset since pin)) p ≡ values limit offset since pin p
    unfolding given
    gives p = ap (λ pairs. option_map (λ (pair : List ℕ × List ℕ). pair.1) (find (is_of p) pairs)) (parsed (numbers limit offset since pin) are) ∙ among since pin p
      where
        among : (since pin : Option ℕ) (p : Parameter) → option_map (λ (pair : List ℕ × List ℕ). pair.1) (find (is_of p) (map pair_of (numbers limit offset since pin))) ≡ values limit offset since pin p
        among since pin parameter.Limit = refl
        among since pin parameter.Offset = refl
        among None None parameter.Sort = refl
        among None (Some n) parameter.Sort = refl
        among (Some m) None parameter.Sort = refl
        among (Some m) (Some n) parameter.Sort = refl
        among None None parameter.OrderBy = refl
        among None (Some n) parameter.OrderBy = refl
        among (Some m) None parameter.OrderBy = refl
        among (Some m) (Some n) parameter.OrderBy = refl
        among None None parameter.Filter = refl
        among None (Some n) parameter.Filter = refl
        among (Some m) None parameter.Filter = refl
        among (Some m) (Some n) parameter.Filter = refl
        among None None parameter.Fields = refl
        among None (Some n) parameter.Fields = refl
        among (Some m) None parameter.Fields = refl
        among (Some m) (Some n) parameter.Fields = refl
        among None None parameter.HubVersion = refl
        among None (Some n) parameter.HubVersion = refl
        among (Some m) None parameter.HubVersion = refl
        among (Some m) (Some n) parameter.HubVersion = refl
        among (Some m) pin parameter.HubSince = refl
        among None None parameter.HubSince = refl
        among None (Some n) parameter.HubSince = refl

    once : (p : Parameter) → is_repeated (joined (numbers limit offset since pin)) p ≡ false
    unfolding is_repeated
    once p = ap (λ pairs. nat_lt 1 (count_by (is_of p) pairs)) (parsed (numbers limit offset since pin) are) ∙ among since pin p
      where
        among : (since pin : Option ℕ) (p : Parameter) → nat_lt 1 (count_by (is_of p) (map pair_of (numbers limit offset since pin))) ≡ false
        among None None parameter.Limit = refl
        among None None parameter.Offset = refl
        among None None parameter.Sort = refl
        among None None parameter.OrderBy = refl
        among None None parameter.Filter = refl
        among None None parameter.Fields = refl
        among None None parameter.HubVersion = refl
        among None None parameter.HubSince = refl
        among None (Some n) parameter.Limit = refl
        among None (Some n) parameter.Offset = refl
        among None (Some n) parameter.Sort = refl
        among None (Some n) parameter.OrderBy = refl
        among None (Some n) parameter.Filter = refl
        among None (Some n) parameter.Fields = refl
        among None (Some n) parameter.HubVersion = refl
        among None (Some n) parameter.HubSince = refl
        among (Some m) None parameter.Limit = refl
        among (Some m) None parameter.Offset = refl
        among (Some m) None parameter.Sort = refl
        among (Some m) None parameter.OrderBy = refl
        among (Some m) None parameter.Filter = refl
        among (Some m) None parameter.Fields = refl
        among (Some m) None parameter.HubVersion = refl
        among (Some m) None parameter.HubSince = refl
        among (Some m) (Some n) parameter.Limit = refl
        among (Some m) (Some n) parameter.Offset = refl
        among (Some m) (Some n) parameter.Sort = refl
        among (Some m) (Some n) parameter.OrderBy = refl
        among (Some m) (Some n) parameter.Filter = refl
        among (Some m) (Some n) parameter.Fields = refl
        among (Some m) (Some n) parameter.HubVersion = refl
        among (Some m) (Some n) parameter.HubSince = refl

-- ---- what values of parameters say

limit_read : (limit : ℕ) → 1 ≤ limit → limit ≤ 1000 → limit_of (Some (decimal limit)) ≡ Ok limit
unfolding limit_of
limit_read limit some most =
    let counted = count_of-decimal limit (omega arith) in
    let not_none : (limit == 0) ≡ false = grind (arith, nat_tests) in
    let least : min limit 1000 ≡ limit = omega arith in
    rw (counted, not_none, least) refl

offset_read : (offset : ℕ) → offset < 10 ^ 18 → offset_of (Some (decimal offset)) ≡ Ok offset
unfolding offset_of
offset_read offset small = rw (count_of-decimal offset small) refl

version_read : (pin : Option ℕ) → IfSome pin (λ p. p < 10 ^ 18) → version_of (option_map (λ p. decimal p) pin) ≡ Ok pin
unfolding version_of
version_read None small = refl
version_read (Some p) small = rw (count_of-decimal p small) refl

since_read : (since : Option ℕ) → IfSome since IsShort → since_of false (option_map (λ n. decimal n) since) ≡ Ok since
unfolding since_of
since_read None short = refl
since_read (Some n) short = rw (count_of-decimal n short) refl

-- what values of the parameters say
abbrev query_by : Kind → (Parameter → Option (List ℕ)) → Result Query QueryFault
query_by kind g = do
  limit ← limit_of (g parameter.Limit)
  offset ← offset_of (g parameter.Offset)
  order ← order_of (g parameter.OrderBy)
  test ← test_of kind (g parameter.Filter)
  only ← only_of kind (g parameter.Fields)
  version ← version_of (g parameter.HubVersion)
  since ← since_of (has_choice (g parameter.Sort) order (g parameter.Filter) (g parameter.Fields)) (g parameter.HubSince)
  Ok (record {
    limit = limit;
    offset = offset;
    sort = g parameter.Sort;
    order_by = order;
    filter = g parameter.Filter;
    test = test;
    fields = g parameter.Fields;
    only = only;
    version = version;
    since = since;
    warnings = record {
      sort = has_unknown_sort kind (g parameter.Sort);
      selection = is_some (g parameter.Fields) && is_none only;
    };
  })

-- ---- the request, read again

module _ (ask : Asking) (can : CanAsk ask) (since : Option ℕ) (since_short : IfSome since IsShort) where
  abbrev asked : List ℕ
  asked = joined (numbers ask.limit ask.offset since ask.pin)

  limit_short : IsShort ask.limit
  limit_short = let a = can.limit in omega arith

  are : AllByRecursion IsNamed (numbers ask.limit ask.offset since ask.pin)
  are = are_named ask.limit ask.offset limit_short can.offset since ask.pin since_short can.pin

  given_by : (p : Parameter) → given asked p ≡ values ask.limit ask.offset since ask.pin p
  given_by = gives ask.limit ask.offset limit_short can.offset since ask.pin are

  named_once : (p : Parameter) → is_repeated asked p ≡ false
  named_once = once ask.limit ask.offset limit_short can.offset since ask.pin are

  escaped : has_good_escapes asked ≡ true
  escaped = good (numbers ask.limit ask.offset since ask.pin) are

  none_repeated : list_any (is_repeated asked) all_parameters ≡ false
  none_repeated =
      rw (named_once parameter.Limit, named_once parameter.Offset, named_once parameter.Sort, named_once parameter.OrderBy, named_once parameter.Filter, named_once parameter.Fields, named_once parameter.HubVersion, named_once parameter.HubSince) refl

  values_read : (kind : Kind) → query_by kind (values ask.limit ask.offset since ask.pin) ≡ Ok (record (query_for ask) { since = since })
  unfolding order_of test_of only_of has_unknown_sort
  values_read kind = rw (limit_read ask.limit can.some can.limit, offset_read ask.offset can.offset, version_read ask.pin can.pin, since_read since since_short) refl

  query_read : (kind : Kind) → query_of kind asked ≡ Ok (record (query_for ask) { since = since })
  unfolding query_of
  query_read kind = rw (escaped, none_repeated) ((λ i. query_by kind (λ p. given_by p i)) ∙ values_read kind)

  pin_read : pin_in asked ≡ ask.pin
  unfolding pin_in
  pin_read = rw (escaped, named_once parameter.HubVersion, given_by parameter.HubVersion) (counted ask.pin can.pin)
    where
      counted : (pin : Option ℕ) → IfSome pin IsShort → option_and_then count_of (option_map (λ n. decimal n) pin) ≡ pin
      counted None short = refl
      counted (Some n) short = count_of-decimal n short

  pub read_again : (token : List ℕ) (echo : Option Echo) → wanted_by (record (page_request token ask echo) { query = asked }) ≡ record (asking token ask echo) { query = Ok (record (query_for ask) { since = since }) }
  unfolding page_path
  read_again token echo =
      let path = path_of-whole ask.kind in
      let query : query_for_path asked (path_of (page_path ask.kind)) ≡ Ok (record (query_for ask) { since = since }) = ap (query_for_path asked) path ∙ ap query_or_cause (query_read ask.kind) in
      λ i. record {
        verb = Get;
        path = path i;
        token = Some token;
        pin = pin_read i;
        query = query i;
        mark = Nothing;
        echo = echo;
        close = false;
        body = [];
      }
