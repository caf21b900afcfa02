-- The path of a row that takes writes is read as that of the row.
use Rattle.std.proofs.Common.{◌≡◌, ◌≢◌, ℕ, suc, ◌+◌, ◌*◌, ◌/◌, ◌%◌, ◌<◌, ◌≤◌, ◌==◌, Bool, true, false, ltb, ◌&&◌, ◌||◌}
use Rattle.std.proofs.Common.{not, cond, List, [], ◌∷◌, ◌++◌, length, take, Option, None, Some, IsUtf8, refl, sym, ap}
use Rattle.std.proofs.Common.{subst, ◌∙◌, arith, ⊎_elim}
use Rattle.std.proofs.lemmas.Bool.{and_from, and_parts, cond_both}
use Rattle.std.proofs.lemmas.Bool.Decides.{nat_tests}
use Rattle.std.proofs.lemmas.Str.{IsUtf8-from_is_utf8}
use lib.Utf8.{encode, encodes, scalar, scalar_cases, scalars}
use Rattle.std.specs.Fmt.{digit_glyph}
use Rattle.std.specs.List.{AllByRecursion, before_first, flat_map, position_or_len}
use Rattle.std.specs.Str.{is_utf8}
use Rattle.filter_grammar.specs.Escapes.{begins_with_code, has_whole_escapes, is_hexadecimal}
use Rattle.rest_paths.proofs.FoundLemmas.{gradebook_object, object_front}
use Rattle.rest_paths.proofs.IdLemmas.{whole_id}
use Rattle.rest_paths.specs.Paths.{id_in, ids_at, path_of}
use Rattle.rest_paths.specs.Routed.{route_of}
use Rattle.rest_paths.specs.Routes.{is_gradebook}
use Rattle.rest_paths.specs.Segments.{is_slash, places_of, segment_at}
use Rattle.rest_paths.specs.declared.route.Collection.TheVariants as collection
use Rattle.rest_paths.specs.declared.route.Route.{Route}
use Rattle.rest_paths.specs.declared.route.Route.TheVariants as route
use Rattle.matchit.specs.Seek.{has_slash}
use Rattle.version_core.proofs.PutLemmas.{all_append}
use Rattle.percent_encoding.proofs.PercentLemmas.{percent_decode-nil, percent_decode-percent_encode_byte}
use Rattle.percent_encoding.proofs.PercentLemmas.{percent_decode_not_percent}
use Rattle.percent_encoding.specs.Percent.{percent_decode, percent_encode_byte}
use Rattle.roster_texts.specs.Digits.{◌>>=◌}
use Rattle.roster_texts.specs.Texts.{is_id}
use Rattle.roster_types.specs.Hrefs.{encoded_byte, href, is_unreserved}
use Rattle.roster_values.specs.declared.kind.Kind.{Kind}
use Rattle.roster_values.specs.declared.kind.Kind.TheVariants as kind

-- ---- the bytes of a text

encoded_char : (c : ℕ) → c < 1114112 → AllByRecursion (λ b. b < 256) (encode c)
unfolding encode
encoded_char c low =
    cond_both (ltb c 128) _ _ (AllByRecursion (λ b. b < 256)) (λ e. (let l : c < 128 = grind (arith, nat_tests) in omega (arith, l), tt)) (λ _.
    cond_both (ltb c 2048) _ _ (AllByRecursion (λ b. b < 256)) (λ e. (let l : c < 2048 = grind (arith, nat_tests) in omega (arith, l), (omega arith, tt))) (λ _.
    cond_both (ltb c 65536) _ _ (AllByRecursion (λ b. b < 256)) (λ e. (let l : c < 65536 = grind (arith, nat_tests) in omega (arith, l), (omega arith, (omega arith, tt)))) (λ _.
    (omega (arith, low), (omega arith, (omega arith, (omega arith, tt)))))))

encoded_chars : (cs : List ℕ) → scalars cs ≡ true → AllByRecursion (λ b. b < 256) (encodes cs)
encoded_chars [] good = tt
encoded_chars (c ∷ cs) good =
    let parts = and_parts (scalar c) (scalars cs) good in
    let low : c < 1114112 = ⊎_elim (λ (h : c < 55296). omega (arith, h)) (λ (h : (57344 ≤ c) × (c < 1114112)). h.1) (scalar_cases c parts.0) in
    all_append (λ b. b < 256) (encode c) (encodes cs) (encoded_char c low) (encoded_chars cs parts.1)

pub text_bytes : (text : List ℕ) → IsUtf8 text → AllByRecursion (λ b. b < 256) text
text_bytes text utf8 = subst (AllByRecursion (λ b. b < 256)) utf8.1.1 (encoded_chars utf8.0 utf8.1.0)

-- ---- the bytes of an encoded id

-- an unreserved byte, or an upper-case hexadecimal digit
abbrev IsPlain : ℕ → Type 0
IsPlain b = (b ≢ 37) × (b ≢ 47) × (b < 128)

plain : (b : ℕ) → is_unreserved b ≡ true → IsPlain b
plain b e = (grind (arith, nat_tests), grind (arith, nat_tests), grind (arith, nat_tests))

glyph : (d : ℕ) → d < 16 → IsPlain (digit_glyph true d)
glyph d low = (grind (arith, nat_tests), grind (arith, nat_tests), grind (arith, nat_tests))

code : (d : ℕ) → d < 16 → is_hexadecimal (digit_glyph true d) ≡ true
code d low = grind (arith, nat_tests)

-- one byte, either plain or as an escape
by_byte : (P : ℕ → List ℕ → Type 0) → ((b : ℕ) → is_unreserved b ≡ true → P b (b ∷ [])) → ((b : ℕ) → P b (percent_encode_byte b)) → (b : ℕ) → P b (encoded_byte b)
by_byte P one three b = elim (is_unreserved b) as (λ t. is_unreserved b ≡ t → P b (cond t (b ∷ []) (percent_encode_byte b))) [ true ↦ λ e. one b e | false ↦ λ e. three b ] refl

-- the whole id, byte by byte
all_bytes : (P : List ℕ → List ℕ → Type 0) → P [] [] → ((b : ℕ) (id text : List ℕ) → b < 256 → P id text → P (b ∷ id) (encoded_byte b ++ text)) → (id : List ℕ) → AllByRecursion (λ b. b < 256) id → P id (flat_map encoded_byte id)
all_bytes P nil more [] small = nil
all_bytes P nil more (b ∷ id) small = more b id (flat_map encoded_byte id) small.0 (all_bytes P nil more id small.1)

not_slash : (b : ℕ) (text : List ℕ) → b ≢ 47 → has_slash text ≡ false → has_slash (b ∷ text) ≡ false
not_slash b text other rest = let test : (b == 47) ≡ false = grind (arith, nat_tests) in ap (λ t. cond t true (has_slash text)) test ∙ rest

escape_slash_free : (text : List ℕ) → has_slash text ≡ false → (b : ℕ) → has_slash (percent_encode_byte b ++ text) ≡ false
unfolding percent_encode_byte
escape_slash_free text rest b =
    let high = digit_glyph true (b / 16 % 16) in
    let low = digit_glyph true (b % 16) in
    not_slash 37 (high ∷ low ∷ text) (λ e. omega arith) (not_slash high (low ∷ text) (glyph (b / 16 % 16) (omega arith)).1 (not_slash low text (glyph (b % 16) (omega arith)).1 rest))

slash_free : (b : ℕ) (text : List ℕ) → has_slash text ≡ false → has_slash (encoded_byte b ++ text) ≡ false
slash_free b text rest = by_byte (λ b bs. has_slash (bs ++ text) ≡ false) (λ b e. not_slash b text (plain b e).1 rest) (escape_slash_free text rest) b

pub no_slash : (id : List ℕ) → AllByRecursion (λ b. b < 256) id → has_slash (flat_map encoded_byte id) ≡ false
no_slash id small = all_bytes (λ id text. has_slash text ≡ false) refl (λ b id text low rest. slash_free b text rest) id small

-- ---- what it is decoded to

decoded_byte : (b : ℕ) (text : List ℕ) → b < 256 → percent_decode (encoded_byte b ++ text) ≡ b ∷ percent_decode text
decoded_byte b text low = by_byte (λ b bs. b < 256 → percent_decode (bs ++ text) ≡ b ∷ percent_decode text) (λ b e low. percent_decode_not_percent b text (plain b e).0) (λ b low. percent_decode-percent_encode_byte b text low) b low

pub decoded : (id : List ℕ) → AllByRecursion (λ b. b < 256) id → percent_decode (flat_map encoded_byte id) ≡ id
decoded id small = all_bytes (λ id text. percent_decode text ≡ id) percent_decode-nil (λ b id text low rest. decoded_byte b text low ∙ ap (λ t. b ∷ t) rest) id small

one_whole : (b : ℕ) (text : List ℕ) → b ≢ 37 → has_whole_escapes text ≡ true → has_whole_escapes (b ∷ text) ≡ true
one_whole b text other rest = let test : (b == 37) ≡ false = grind (arith, nat_tests) in ap (λ t. (not t || begins_with_code text) && has_whole_escapes text) test ∙ rest

escape_whole : (text : List ℕ) → has_whole_escapes text ≡ true → (b : ℕ) → has_whole_escapes (percent_encode_byte b ++ text) ≡ true
unfolding percent_encode_byte
escape_whole text rest b =
    let high = digit_glyph true (b / 16 % 16) in
    let low = digit_glyph true (b % 16) in
    and_from (begins_with_code (high ∷ low ∷ text)) (has_whole_escapes (high ∷ low ∷ text)) (and_from (is_hexadecimal high) (is_hexadecimal low) (code (b / 16 % 16) (omega arith)) (code (b % 16) (omega arith)))
    (one_whole high (low ∷ text) (glyph (b / 16 % 16) (omega arith)).0 (one_whole low text (glyph (b % 16) (omega arith)).0 rest))

whole_byte : (b : ℕ) (text : List ℕ) → has_whole_escapes text ≡ true → has_whole_escapes (encoded_byte b ++ text) ≡ true
whole_byte b text rest = by_byte (λ b bs. has_whole_escapes (bs ++ text) ≡ true) (λ b e. one_whole b text (plain b e).0 rest) (escape_whole text rest) b

whole_escapes : (id : List ℕ) → AllByRecursion (λ b. b < 256) id → has_whole_escapes (flat_map encoded_byte id) ≡ true
whole_escapes id small = all_bytes (λ id text. has_whole_escapes text ≡ true) refl (λ b id text low rest. whole_byte b text rest) id small

pub id_read : (id : List ℕ) → AllByRecursion (λ b. b < 256) id → is_utf8 id ≡ true → is_id id ≡ true → id_in (flat_map encoded_byte id) ≡ Some id
id_read id small text good =
    whole_id (flat_map encoded_byte id) id (whole_escapes id small) (subst IsUtf8 (sym (decoded id small)) (IsUtf8-from_is_utf8 id text)) (sym (decoded id small))
    ∙ ap (λ b. cond b (Some id) None) good

-- ---- the segments

whole_front : (text : List ℕ) → has_slash text ≡ false → before_first is_slash text ≡ text
whole_front [] none = refl
whole_front (b ∷ text) none = by (b == 47) refl none (whole_front text)
  where
    by : (t : Bool) → (b == 47) ≡ t → cond t true (has_slash text) ≡ false → (has_slash text ≡ false → before_first is_slash text ≡ text) → before_first is_slash (b ∷ text) ≡ b ∷ text
    by true e none rest = cc
    by false e none rest =
        let next : 1 + position_or_len is_slash text ≡ suc (position_or_len is_slash text) = omega arith in
        ap (λ t. take (cond (not t) (1 + position_or_len is_slash text) 0) (b ∷ text)) e ∙ ap (λ n. take n (b ∷ text)) next ∙ ap (λ t. b ∷ t) (rest none)

segment : (k : Kind) (text : List ℕ) → is_gradebook k ≡ true → segment_at 5 (object_front k ++ text) ≡ before_first is_slash text
segment kind.Categories text graded = refl
segment kind.LineItems text graded = refl
segment kind.Results text graded = refl
segment _ text other = cc

-- a first byte that fits, and no slash
found : (k : Kind) (text : List ℕ) → is_gradebook k ≡ true → 0 < length text → AllByRecursion (λ b. b < 256) text → has_slash text ≡ false → route_of (object_front k ++ text) ≡ Some (route.One (collection.Of k))
found k [] graded some small whole = absurd (omega arith)
found k (b ∷ text) graded some small whole = gradebook_object k b text graded small.0 whole

escape_small : (text : List ℕ) → AllByRecursion (λ b. b < 256) text → (b : ℕ) → AllByRecursion (λ b. b < 256) (percent_encode_byte b ++ text)
unfolding percent_encode_byte
escape_small text rest b = (omega arith, (let h = (glyph (b / 16 % 16) (omega arith)).2 in omega (arith, h), (let l = (glyph (b % 16) (omega arith)).2 in omega (arith, l), rest)))

escape_length : (id text : List ℕ) → (length id ≤ length text) × (length text ≤ 3 * length id) → (b : ℕ) → (length (b ∷ id) ≤ length (percent_encode_byte b ++ text)) × (length (percent_encode_byte b ++ text) ≤ 3 * length (b ∷ id))
unfolding percent_encode_byte
escape_length id text rest b = (omega (arith, rest.0), omega (arith, rest.1))

small_byte : (b : ℕ) (text : List ℕ) → AllByRecursion (λ b. b < 256) text → AllByRecursion (λ b. b < 256) (encoded_byte b ++ text)
small_byte b text rest = by_byte (λ b bs. AllByRecursion (λ b. b < 256) (bs ++ text)) (λ b e. (let low = (plain b e).2 in omega (arith, low), rest)) (escape_small text rest) b

encoded_small : (id : List ℕ) → AllByRecursion (λ b. b < 256) id → AllByRecursion (λ b. b < 256) (flat_map encoded_byte id)
encoded_small id small = all_bytes (λ id text. AllByRecursion (λ b. b < 256) text) tt (λ b id text low rest. small_byte b text rest) id small

-- each byte becomes one or three
pub encoded_length : (id : List ℕ) → AllByRecursion (λ b. b < 256) id → (length id ≤ length (flat_map encoded_byte id)) × (length (flat_map encoded_byte id) ≤ 3 * length id)
encoded_length id small = all_bytes (λ id text. (length id ≤ length text) × (length text ≤ 3 * length id)) (omega arith, omega arith)
    (λ b id text low rest. by_byte (λ b bs. (length (b ∷ id) ≤ length (bs ++ text)) × (length (bs ++ text) ≤ 3 * length (b ∷ id))) (λ b e. (omega (arith, rest.0), omega (arith, rest.1))) (escape_length id text rest) b) id small

-- the path of a row that takes writes is read as that row's
pub path_read : (k : Kind) (id : List ℕ) → is_gradebook k ≡ true → AllByRecursion (λ b. b < 256) id → is_utf8 id ≡ true → is_id id ≡ true → 0 < length id
    → path_of (href k id) ≡ Some (record { route = route.One (collection.Of k); ids = id ∷ [] })
unfolding path_of ids_at href
path_read k id graded small text good some =
    let encoded = flat_map encoded_byte id in
    let way = found k encoded graded (let more = (encoded_length id small).0 in omega (arith, some, more)) (encoded_small id small) (no_slash id small) in
    let piece : segment_at 5 (object_front k ++ encoded) ≡ encoded = segment k encoded graded ∙ whole_front encoded (no_slash id small) in
    ap (λ (o : Option Route). o >>= λ r. ids_at (places_of r) (object_front k ++ encoded) >>= λ ids. Some (record { route = r; ids = ids })) way
    ∙ ap (λ t. (id_in t >>= λ one. Some (one ∷ [])) >>= λ ids. Some (record { route = route.One (collection.Of k); ids = ids })) piece
    ∙ ap (λ (o : Option (List ℕ)). (o >>= λ one. Some (one ∷ [])) >>= λ ids. Some (record { route = route.One (collection.Of k); ids = ids })) (id_read id small text good)
