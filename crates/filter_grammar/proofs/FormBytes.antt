-- How the bytes of a form are decoded, one by one.
use Rattle.std.proofs.Common.{◌≡◌, ◌≢◌, ℕ, ◌+◌, ◌*◌, ◌<◌, ◌≤◌, false, List, [], ◌∷◌, length, get_or, drop, map, sym}
use Rattle.std.proofs.Common.{refl, ap, ◌∙◌, arith}
use Rattle.std.specs.Borrow.{Bor}
use Rattle.std.specs.Char.{digit_value}
use Rattle.std.specs.Prelude.{Option, None, Some, MatchOption, unwrap_or}
use Rattle.std.proofs.lemmas.Bool.{and_from, both_ways, lt-ltb}
use Rattle.std.proofs.lemmas.Bool.Decides.{nat_tests}
use Rattle.filter_grammar.specs.Escapes.{begins_with_code}
use Rattle.form_urlencoded.specs.Form.{decode, plus_sign, plus_to_space, space}
use Rattle.percent_encoding.specs.Percent.{percent_decode, percent_sign}
use Rattle.percent_encoding.proofs.PercentLemmas.{percent_decode-nil, percent_decode_escape, percent_decode_not_percent}
use Rattle.percent_encoding.proofs.PercentLemmas.{KeepsFirst_from_no_escape}

pub decode-nil : decode [] ≡ []
decode-nil = percent_decode-nil

kept : (b : ℕ) → digit_value b < 16 → plus_to_space b ≡ b
kept b hex = grind (arith, nat_tests)

-- an escape stands for its byte
pub decode_escape : (high low : ℕ) (t : List ℕ) → digit_value high < 16 → digit_value low < 16 → decode (percent_sign ∷ high ∷ low ∷ t) ≡ (16 * digit_value high + digit_value low) ∷ decode t
decode_escape high low t hex_high hex_low =
    ap (λ h. percent_decode (percent_sign ∷ h ∷ plus_to_space low ∷ map plus_to_space t)) (kept high hex_high)
    ∙ ap (λ l. percent_decode (percent_sign ∷ high ∷ l ∷ map plus_to_space t)) (kept low hex_low)
    ∙ percent_decode_escape percent_sign high low (map plus_to_space t) refl hex_high hex_low

-- any other byte but `%` for itself, and `+` for a space
pub decode_plus : (t : List ℕ) → decode (plus_sign ∷ t) ≡ space ∷ decode t
decode_plus t = percent_decode_not_percent space (map plus_to_space t) (λ e. omega arith)

pub decode_other : (b : ℕ) (t : List ℕ) → b ≢ percent_sign → b ≢ plus_sign → decode (b ∷ t) ≡ b ∷ decode t
decode_other b t percent plus =
    ap (λ h. percent_decode (h ∷ map plus_to_space t)) (same b plus) ∙ percent_decode_not_percent b (map plus_to_space t) percent
  where
    same : (b : ℕ) → b ≢ plus_sign → plus_to_space b ≡ b
    same b plus = grind (arith, nat_tests)

plain_before : (b : ℕ) → digit_value (plus_to_space b) < 16 → digit_value b < 16
plain_before b hex = grind (arith, nat_tests)

-- a `%` with no two digits behind it stands for itself
pub decode_bare : (t : List ℕ) → begins_with_code t ≡ false → decode (percent_sign ∷ t) ≡ percent_sign ∷ decode t
decode_bare [] none = KeepsFirst_from_no_escape (percent_sign ∷ []) (λ long _ _ _. absurd (omega arith))
decode_bare (b ∷ []) none = KeepsFirst_from_no_escape (percent_sign ∷ plus_to_space b ∷ []) (λ long _ _ _. absurd (omega arith))
decode_bare (b ∷ c ∷ t) none =
    KeepsFirst_from_no_escape (percent_sign ∷ plus_to_space b ∷ plus_to_space c ∷ map plus_to_space t)
    (λ long percent high low. both_ways _ none (and_from _ _ (lt-ltb _ 16 (plain_before b high)) (lt-ltb _ 16 (plain_before c low))))

-- the same by the bytes at their places
pub at_code : (t : List ℕ) (high low : ℕ) → 2 ≤ length t → high ≡ digit_value (get_or t 0 0) → low ≡ digit_value (get_or t 1 0) → high < 16 → low < 16 → decode (percent_sign ∷ t) ≡ (high * 16 + low) ∷ decode (drop 2 t)
at_code [] high low long _ _ _ _ = absurd (omega arith)
at_code (b ∷ []) high low long _ _ _ _ = absurd (omega arith)
at_code (b ∷ c ∷ t) high low long is_high is_low high_fits low_fits =
    let value : 16 * digit_value b + digit_value c ≡ high * 16 + low = omega arith in
    decode_escape b c t (omega arith) (omega arith) ∙ ap (λ n. n ∷ decode t) value

pub at_percent : (t : List ℕ) → 1 ≤ length t → get_or t 0 0 ≡ percent_sign → t ≡ percent_sign ∷ drop 1 t
at_percent [] long _ = absurd (omega arith)
at_percent (b ∷ t) long e = ap (λ x. x ∷ t) e

pub at_plus : (t : List ℕ) → 1 ≤ length t → get_or t 0 0 ≡ plus_sign → decode t ≡ space ∷ decode (drop 1 t)
at_plus [] long _ = absurd (omega arith)
at_plus (b ∷ t) long e = ap (λ x. decode (x ∷ t)) e ∙ decode_plus t

pub at_other : (t : List ℕ) → 1 ≤ length t → get_or t 0 0 ≢ percent_sign → get_or t 0 0 ≢ plus_sign → decode t ≡ get_or t 0 0 ∷ decode (drop 1 t)
at_other [] long = absurd (omega arith)
at_other (b ∷ t) long = decode_other b t

pub at_end : (t : List ℕ) → length t < 1 → decode t ≡ []
at_end [] short = decode-nil
at_end (b ∷ t) short = absurd (omega arith)

-- an escape behind a `%`, or the `%` by itself
pub after_percent_or : (t : List ℕ) (found : Option (ℕ × Bor (List ℕ))) (r : ℕ × Bor (List ℕ)) (whole : Bor (List ℕ)) → whole.now ≡ t → MatchOption found (begins_with_code t ≡ false) (λ x. decode (percent_sign ∷ t) ≡ x.0 ∷ decode x.1.now) → r ≡ unwrap_or found (percent_sign, whole) → decode (percent_sign ∷ t) ≡ r.0 ∷ decode r.1.now
after_percent_or t None r whole same none e = decode_bare t none ∙ ap (λ l. percent_sign ∷ decode l) (sym same) ∙ sym (ap (λ x. x.0 ∷ decode x.1.now) e)
after_percent_or t (Some x) r whole same some e = some ∙ sym (ap (λ x. x.0 ∷ decode x.1.now) e)
