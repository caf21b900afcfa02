-- What the path and the query of a consumer's request for a page ask for.
use Rattle.std.proofs.Common.{◌≡◌, ◌≢◌, ℕ, ◌<◌, ◌^◌, ◌==◌, List, [], ◌∷◌, ◌++◌, Bool, true, false, ◌&&◌, not, Option}
use Rattle.std.proofs.Common.{Some, codes, length, length-append, refl, sym, ap, subst, ◌∙◌, arith, nat_lt, nat_le}
use Rattle.std.proofs.lemmas.Bool.{and_parts}
use Rattle.std.proofs.lemmas.Bool.Decides.{nat_tests}
use Rattle.std.proofs.lemmas.Fmt.{decimal_nonempty, digits_decimal, digits_value-decimal, length-decimal-le}
use Rattle.std.proofs.lemmas.List.Sums.{AllPass-from_list_all}
use Rattle.std.proofs.lemmas.Str.{IsUtf8-from_ascii, is_utf8-from_IsUtf8}
use Rattle.std.proofs.lemmas.Str.Ascii.{IsAscii-from_all}
use Rattle.std.specs.Fmt.{decimal}
use Rattle.std.specs.List.{All, list_all}
use Rattle.std.specs.Str.{is_utf8}
use Rattle.filter_grammar.specs.Escapes.{has_whole_escapes, is_form_text}
use Rattle.filter_grammar.specs.Counts.{count_of}
use Rattle.form_urlencoded.proofs.FormLemmas.{decode_plain, raw_pairs-nil, raw_pairs_first, split_once_after_at}
use Rattle.form_urlencoded.proofs.FormLemmas.{split_once_after_none, split_once_before_at, split_once_before_none}
use Rattle.form_urlencoded.specs.Form as form
use Rattle.hub_spec.specs.views.Pages.{whole}
use Rattle.rest_paths.proofs.FoundLemmas.{collection_found}
use Rattle.rest_paths.specs.Paths.{PathParts, ids_at, path_of}
use Rattle.rest_paths.specs.Segments.{places_of}
use Rattle.rest_paths.specs.declared.route.Route.{Route}
use Rattle.roster_texts.proofs.NumberTexts.{own}
use Rattle.roster_texts.specs.Digits.{is_digit, ◌>>=◌}
use Rattle.roster_values.specs.Kinds.{plural_of}
use Rattle.roster_values.specs.declared.kind.Kind.{Kind}

-- a byte of ASCII that stands for itself and separates nothing
abbrev pub is_safe : ℕ → Bool
is_safe b = nat_lt b 128 && (not (b == 37) && (not (b == 38) && not (b == 43)))

abbrev pub IsSafe : List ℕ → Type 0
IsSafe t = list_all is_safe t ≡ true

All-each : (P Q : ℕ → Type 0) (t : List ℕ) → ((b : ℕ) → P b → Q b) → All P t → All Q t
All-each P Q t each all = λ k d within. each _ (all k d within)

differs : (b c : ℕ) → not (b == c) ≡ true → b ≢ c
differs b c e = λ same. contra b c e same
  where
    contra : (b c : ℕ) → not (b == c) ≡ true → b ≡ c → ⊥
    contra b c e same = elim (b == c) as (λ t. (b == c) ≡ t → not t ≡ true → ⊥) [ true ↦ λ _ e. cc | false ↦ λ f _. grind (arith, nat_tests) ] refl e

abbrev pub is_apart : ℕ → Bool
is_apart b = not (b == 61)

safe_parts : (b : ℕ) → is_safe b ≡ true → (b < 128) × (b ≢ 37) × (b ≢ 38) × (b ≢ 43)
safe_parts b e =
    let one = and_parts (nat_lt b 128) _ e in
    let two = and_parts (not (b == 37)) _ one.1 in
    let three = and_parts (not (b == 38)) _ two.1 in
    let small : b < 128 = let a = one.0 in grind (arith, nat_tests) in
    (small, differs b 37 two.0, differs b 38 three.0, differs b 43 three.1)

safe_all : (t : List ℕ) → IsSafe t → All (λ b. is_safe b ≡ true) t
safe_all t safe = AllPass-from_list_all is_safe t safe

digits_safe : (t : List ℕ) → list_all is_digit t ≡ true → IsSafe t
digits_safe [] e = refl
digits_safe (b ∷ t) e =
    let parts = and_parts (is_digit b) (list_all is_digit t) e in
    let here : is_safe b ≡ true = let d = parts.0 in grind (arith, nat_tests) in
    rw here (digits_safe t parts.1)

no_separator : (t : List ℕ) → IsSafe t → All (λ b. b ≢ 38) t
no_separator t safe = All-each (λ b. is_safe b ≡ true) (λ b. b ≢ 38) t (λ b e. (safe_parts b e).2) (safe_all t safe)

pub plain_decode : (t : List ℕ) → IsSafe t → form.decode t ≡ t
plain_decode t safe = decode_plain t (All-each (λ b. is_safe b ≡ true) form.IsPlain t (λ b e. let p = safe_parts b e in (p.3, p.1)) (safe_all t safe))

whole_escapes : (t : List ℕ) → IsSafe t → has_whole_escapes t ≡ true
whole_escapes [] e = refl
whole_escapes (b ∷ t) e =
    let parts = and_parts (is_safe b) (list_all is_safe t) e in
    let apart : (b == 37) ≡ false = let p = (safe_parts b parts.0).1 in grind (arith, nat_tests) in
    rw apart (whole_escapes t parts.1)

pub form_text : (t : List ℕ) → IsSafe t → is_form_text t ≡ true
unfolding is_form_text
form_text t safe =
    let ascii = IsAscii-from_all t (All-each (λ b. is_safe b ≡ true) (λ b. b < 128) t (λ b e. (safe_parts b e).0) (safe_all t safe)) in
    let utf8 : is_utf8 (form.decode t) ≡ true = ap is_utf8 (plain_decode t safe) ∙ is_utf8-from_IsUtf8 t (IsUtf8-from_ascii t ascii) in
    rw (whole_escapes t safe, utf8) refl

-- a pair in front of others, and the last one
module _ (name value : List ℕ) (safe : IsSafe (name ++ 61 ∷ value)) (name_apart : list_all is_apart name ≡ true) where
  apart : All (λ b. b ≢ 61) name
  apart = All-each (λ b. is_apart b ≡ true) (λ b. b ≢ 61) name (λ b e. differs b 61 e) (AllPass-from_list_all is_apart name name_apart)

  one_pair : ◌≡◌ {A = List ℕ × List ℕ} (form.split_pair (name ++ 61 ∷ value)) (name, value)
  one_pair = λ i. (split_once_before_at 61 name value apart i, split_once_after_at 61 name value apart i)

  some_bytes : 0 < length (name ++ 61 ∷ value)
  some_bytes = omega (arith, length-append name (61 ∷ value))

  pub pair_first : (rest : List ℕ) → form.raw_pairs ((name ++ 61 ∷ value) ++ 38 ∷ rest) ≡ (name, value) ∷ form.raw_pairs rest
  pair_first rest =
      let none = no_separator (name ++ 61 ∷ value) safe in
      let before = split_once_before_at 38 (name ++ 61 ∷ value) rest none in
      let after = split_once_after_at 38 (name ++ 61 ∷ value) rest none in
      raw_pairs_first ((name ++ 61 ∷ value) ++ 38 ∷ rest) (subst (λ t. 0 < length t) (sym before) some_bytes)
      ∙ (λ i. form.split_pair (before i) ∷ form.raw_pairs (after i)) ∙ ap (λ p. p ∷ form.raw_pairs rest) one_pair

  pub pair_last : form.raw_pairs (name ++ 61 ∷ value) ≡ (name, value) ∷ []
  pair_last =
      let none = no_separator (name ++ 61 ∷ value) safe in
      let before = split_once_before_none 38 (name ++ 61 ∷ value) none in
      let after = split_once_after_none 38 (name ++ 61 ∷ value) none in
      raw_pairs_first (name ++ 61 ∷ value) (subst (λ t. 0 < length t) (sym before) some_bytes)
      ∙ (λ i. form.split_pair (before i) ∷ form.raw_pairs (after i)) ∙ (λ i. one_pair i ∷ raw_pairs-nil i)

-- a number in digits
module _ (n : ℕ) (small : n < 10 ^ 18) where
  bound : n < 2 ^ 64
  bound = omega arith

  pub number_safe : IsSafe (decimal n)
  number_safe = digits_safe (decimal n) (digits_decimal own n bound)

  pub count_of-decimal : count_of (decimal n) ≡ Some n
  unfolding count_of
  count_of-decimal =
      let digits = digits_decimal own n bound in
      let some : nat_le 1 (length (decimal n)) ≡ true = let a = decimal_nonempty n bound in grind (arith, nat_tests) in
      let few : nat_le (length (decimal n)) 18 ≡ true = let a = length-decimal-le 18 n (omega arith) small bound in grind (arith, nat_tests) in
      rw (some, few, digits, digits_value-decimal own n bound) refl

-- the path of a whole collection
pub path_of-whole : (kind : Kind) → path_of (codes "/ims/oneroster/v1p1/" ++ plural_of kind) ≡ Some (whole kind)
unfolding path_of ids_at
path_of-whole kind =
    ap (λ (r : Option Route). r >>= λ route. ids_at (places_of route) (codes "/ims/oneroster/v1p1/" ++ plural_of kind) >>= λ ids. Some (made route ids)) (collection_found kind)
  where
    made : Route → List (List ℕ) → PathParts
    made route ids = record { route = route; ids = ids }
