-- A token is a text.
use Rattle.std.proofs.Common.{◌≡◌, ℕ, ◌<◌, ◌≤◌, ◌==◌, Bool, true, false, ◌&&◌, List, [], ◌∷◌, arith, refl, length, drop}
use Rattle.std.proofs.Common.{one-add, take, Some, None, ◌+◌, nat_le, nat_lt, slice_index, if◌then◌else◌, zero, suc}
use Rattle.std.proofs.lemmas.Bool.{and_parts}
use Rattle.std.specs.Prelude.{IsUtf8}
use Rattle.std.specs.List.{prefix_len}
use Rattle.std.proofs.lemmas.Str.{IsUtf8-from_ascii}
use Rattle.std.proofs.lemmas.Grind.{common_steps}
use Rattle.std.proofs.lemmas.Bool.Decides.{nat_tests}
use Rattle.roster_texts.specs.Texts.{is_padding, is_token, is_token_byte, token_body}

-- a visible byte of ASCII
abbrev pub IsPlain : ℕ → Type 0
IsPlain b = (32 < b) × (b < 127)

byte_small : (b : ℕ) → is_token_byte b ≡ true → IsPlain b
byte_small b h = (grind (arith, nat_tests), grind (arith, nat_tests))

abbrev pub AllPlain : List ℕ → Type 0
AllPlain [] = Unit {0}
AllPlain (b ∷ bytes) = IsPlain b × AllPlain bytes

equals_is : (b : ℕ) → (b == 61) ≡ true → IsPlain b
equals_is b h = (grind (arith, nat_tests), grind (arith, nat_tests))

padding_small : (bytes : List ℕ) → is_padding bytes ≡ true → AllPlain bytes
padding_small [] h = tt
padding_small (b ∷ bytes) h = let (first, rest) = and_parts (b == 61) (is_padding bytes) h in (equals_is b first, padding_small bytes rest)

-- by whether the first byte is one of a token
plain_by_first : (t : Bool) (b : ℕ) (bytes : List ℕ) → is_token_byte b ≡ t
    → is_padding (drop (length (take (if t then 1 + prefix_len is_token_byte bytes else 0) (b ∷ bytes))) (b ∷ bytes)) ≡ true
    → (is_padding (drop (length (token_body bytes)) bytes) ≡ true → AllPlain bytes) → AllPlain (b ∷ bytes)
plain_by_first true b bytes e h rest =
    let behind : is_padding (drop (length (token_body bytes)) bytes) ≡ true = rw (one-add) at h in (byte_small b e, rest behind)
plain_by_first false b bytes e h rest = padding_small (b ∷ bytes) h

token_bytes_plain : (bytes : List ℕ) → is_padding (drop (length (token_body bytes)) bytes) ≡ true → AllPlain bytes
token_bytes_plain [] h = tt
token_bytes_plain (b ∷ bytes) h = plain_by_first (is_token_byte b) b bytes refl h (token_bytes_plain bytes)

small_at : (bytes : List ℕ) (i : ℕ) → AllPlain bytes → slice_index bytes i < 128
small_at [] i h = grind (arith, common_steps)
small_at (b ∷ bytes) zero h = omega (arith, h.0.1)
small_at (b ∷ bytes) (suc i) h = small_at bytes i h.1

pub plain_is_text : (bytes : List ℕ) → AllPlain bytes → IsUtf8 bytes
plain_is_text bytes plain = IsUtf8-from_ascii bytes (λ i. small_at bytes i plain)

pub token_plain : (bytes : List ℕ) → is_token bytes ≡ true → (0 < length bytes) × (length bytes ≤ 256) × AllPlain bytes
token_plain bytes h =
    let (some, rest) = and_parts (nat_lt 0 (length (token_body bytes))) (nat_le (length bytes) 256 && is_padding (drop (length (token_body bytes)) bytes)) h in
    let (short, padded) = and_parts (nat_le (length bytes) 256) (is_padding (drop (length (token_body bytes)) bytes)) rest in
    (grind (arith, nat_tests, common_steps), grind (arith, nat_tests), token_bytes_plain bytes padded)

pub token_is_text : (bytes : List ℕ) → is_token bytes ≡ true → IsUtf8 bytes
token_is_text bytes h = plain_is_text bytes (token_plain bytes h).2

-- what is no text is no token
pub no_text : (bytes : List ℕ) → ¬ (IsUtf8 bytes) → None ≡ (if is_token bytes then Some bytes else None)
no_text bytes not = by (is_token bytes) refl
  where
    by : (t : Bool) → is_token bytes ≡ t → None ≡ (if t then Some bytes else None)
    by true is = absurd (not (token_is_text bytes is))
    by false is = refl
