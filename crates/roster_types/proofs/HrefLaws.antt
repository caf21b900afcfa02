-- The set of escaped bytes holds the bytes that are not unreserved.
use Rattle.std.proofs.Common.{◌≡◌, ◌<◌, ◌≤◌, inl, inr, ℕ, zero, suc, Bool, true, false, not, ◌&&◌, List, [], ◌∷◌, refl}
use Rattle.std.proofs.Common.{arith, cond}
use Rattle.std.proofs.lemmas.Bool.{and_parts, cases_lt}
use Rattle.std.proofs.lemmas.Bool.Decides.{nat_tests}
use Rattle.std.specs.Char.{is_ascii}
use Rattle.std.specs.List.{flat_map}
use Rattle.percent_encoding.specs.declared.ascii_set.AsciiSet.{AsciiSet}
use Rattle.percent_encoding.specs.AsciiSet.{should_percent_encode}
use Rattle.percent_encoding.specs.Percent.{encode_byte, percent_encode, percent_encode_byte}
use Rattle.roster_types.specs.Hrefs.{encoded_byte, is_unreserved}

abbrev pub escaped : AsciiSet
escaped = record { mask = 0xb800000178000001fc009fffffffffff }

abbrev differ : Bool → Bool → Bool
differ true b = not b
differ false b = b

-- the two tests of the bytes below n differ
differ_below : ℕ → Bool
differ_below zero = true
differ_below (suc n) = differ (should_percent_encode escaped n) (is_unreserved n) && differ_below n

all_differ : differ_below 128 ≡ true
unfolding differ_below should_percent_encode
all_differ = refl

differ_at : (n m : ℕ) → n < m → differ_below m ≡ true → differ (should_percent_encode escaped n) (is_unreserved n) ≡ true
unfolding differ_below
differ_at n zero l h = absurd (omega arith)
differ_at n (suc m) l h =
    let p = and_parts (differ (should_percent_encode escaped m) (is_unreserved m)) (differ_below m) h in
    elim (cases_lt n m) [
      | inl below ↦ differ_at n m below p.1
      | inr above ↦ let same : n ≡ m = omega arith in rw same p.0
    ]

past_ascii : (n : ℕ) → 128 ≤ n → differ (should_percent_encode escaped n) (is_unreserved n) ≡ true
unfolding should_percent_encode
past_ascii n h =
    let outside : is_ascii n ≡ false = grind (arith, nat_tests) in
    let other : is_unreserved n ≡ false = grind (arith, nat_tests) in
    rw (outside, other) refl

byte_by : (b : ℕ) (escape kept : Bool) → differ escape kept ≡ true → cond escape (percent_encode_byte b) (b ∷ []) ≡ cond kept (b ∷ []) (percent_encode_byte b)
byte_by b true true h = cc
byte_by b true false h = refl
byte_by b false true h = refl
byte_by b false false h = cc

byte_encoded : (b : ℕ) → encode_byte escaped b ≡ encoded_byte b
byte_encoded b =
    byte_by b (should_percent_encode escaped b) (is_unreserved b)
    (elim (cases_lt b 128) [ inl below ↦ differ_at b 128 below all_differ | inr above ↦ past_ascii b above ])

bytes_encoded : (bs : List ℕ) → flat_map (encode_byte escaped) bs ≡ flat_map encoded_byte bs
bytes_encoded [] = refl
bytes_encoded (b ∷ bs) = rw (byte_encoded b, bytes_encoded bs) refl

-- the kit's escapes by that set are those of the definition
pub percent_encode-escaped : (bs : List ℕ) → percent_encode escaped bs ≡ flat_map encoded_byte bs
unfolding percent_encode
percent_encode-escaped bs = bytes_encoded bs
