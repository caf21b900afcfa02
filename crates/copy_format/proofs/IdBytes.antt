-- Ids stand below the byte 255, with which no character begins.
use Rattle.std.proofs.Common.{◌≡◌, ◌<◌, ◌/◌, ◌+◌, ℕ, List, [], ◌∷◌, ◌++◌, Bool, T, true, false, cond, not, inl, inr}
use Rattle.std.proofs.Common.{refl, sym, ap, ◌∙◌, subst, arith, ltb, ltb→lt}
use Rattle.std.specs.Char.{encode_utf8}
use Rattle.std.specs.FinMap.{from_entries, retain_keys}
use Rattle.std.specs.List.{AllByRecursion}
use Rattle.std.specs.Str.{IsUtf8, all_scalars, encode_utf8_all}
use Rattle.std.specs.Ordering.{is_lt, ordering_then}
use Rattle.std.proofs.Math.Utf8.{scalar, scalar_cases}
use Rattle.std.proofs.lemmas.Bool.{and_parts}
use Rattle.hub_format.specs.Pieces.{end_byte, labels_end}
use Rattle.hub_format.proofs.EntryMaps.{retained, where_none}
use Rattle.hub_format.proofs.Orders.{less_is}
use Rattle.item_maps.specs.Items.{bytes_cmp, is_between}
use Rattle.roster_types.specs.Records.{Record}
use Rattle.copy_format.specs.Format.{FitRows, rows_under}

-- the first byte
record Begins (bytes : List ℕ) : Type 0 where
  byte : ℕ
  rest : List ℕ
  is : bytes ≡ byte ∷ rest
  low : byte < end_byte

either : (b : Bool) (xs ys : List ℕ) → (b ≡ true → Begins xs) → (b ≡ false → Begins ys) → Begins (cond b xs ys)
either true xs ys f g = f refl
either false xs ys f g = g refl

one : (byte : ℕ) (rest : List ℕ) → byte < end_byte → Begins (byte ∷ rest)
one byte rest low = record { byte = byte; rest = rest; is = refl; low = low }

holds : {b : Bool} → b ≡ true → T b
holds is = subst T (sym is) tt

begins : (c : ℕ) → c < 1114112 → Begins (encode_utf8 c)
unfolding encode_utf8
begins c fits =
    either (ltb c 128) _ _ (λ lt. let less = ltb→lt c 128 (holds lt) in one c _ (omega arith))
    (λ more. either (ltb c 2048) _ _ (λ lt. let less = ltb→lt c 2048 (holds lt) in one (192 + c / 64) _ (omega arith))
    (λ more. either (ltb c 65536) _ _ (λ lt. let less = ltb→lt c 65536 (holds lt) in one (224 + c / 4096) _ (omega arith))
    (λ more. one (240 + c / 262144) _ (omega arith))))

character_fits : (c : ℕ) → scalar c ≡ true → c < 1114112
character_fits c is = elim (scalar_cases c is) [
  | inl lt ↦ omega arith
  | inr range ↦ range.1
]

same_byte : (a b : ℕ) (xs ys : List ℕ) → a ∷ xs ≡ b ∷ ys → a ≡ b
same_byte a b xs ys same = cc

first_low : (cs : List ℕ) (byte : ℕ) (rest : List ℕ) → all_scalars cs ≡ true → encode_utf8_all cs ≡ byte ∷ rest → byte < end_byte
first_low [] byte rest are is = absurd cc
first_low (c ∷ cs) byte rest are is =
    let first = begins c (character_fits c (and_parts (scalar c) (all_scalars cs) are).0) in
    let same = same_byte first.byte byte (first.rest ++ encode_utf8_all cs) rest (ap (λ xs. xs ++ encode_utf8_all cs) (sym first.is) ∙ is) in
    let low = first.low in
    omega (arith, same, low)

-- each text stands below the byte 255
pub text_low : (text : List ℕ) → IsUtf8 text → is_between [] labels_end text ≡ true
text_low [] is = refl
text_low (byte ∷ rest) is = ap (λ o. is_lt (ordering_then o (bytes_cmp rest []))) (less_is byte end_byte (first_low is.0 byte rest is.1.0 is.1.1))

pub rows_low : (rows : List Record) → FitRows rows → AllByRecursion (λ e. is_between [] labels_end e.0 ≡ true) (rows_under rows)
rows_low [] fit = tt
rows_low (row ∷ rows) fit = (text_low row.id fit.0.id, rows_low rows fit.1)

rows_go : (rows : List Record) → FitRows rows → AllByRecursion (λ e. not (is_between [] labels_end e.0) ≡ false) (rows_under rows)
rows_go [] fit = tt
rows_go (row ∷ rows) fit = (ap not (text_low row.id fit.0.id), rows_go rows fit.1)

-- so they all go
pub rows_cleared : (rows : List Record) → FitRows rows → retain_keys (from_entries {R = bytes_cmp} (rows_under rows)) (λ label. not (is_between [] labels_end label)) ≡ from_entries []
rows_cleared rows fit = retained (λ label. not (is_between [] labels_end label)) (rows_under rows) ∙ ap from_entries (where_none (λ label. not (is_between [] labels_end label)) (rows_under rows) (rows_go rows fit))
