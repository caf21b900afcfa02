-- A record of a text in UTF-8 has cells in UTF-8, since the bytes that part cells are ASCII.
use Rattle.std.proofs.Common.{◌≡◌, ◌≤◌, ◌<◌, ◌+◌, ◌⊎◌, inl, inr, ℕ, zero, suc, List, [], ◌∷◌, ◌++◌, length, get_or}
use Rattle.std.proofs.Common.{take, drop, Bool, true, false, Option, Some, None, refl, sym, ◌∙◌, arith, append_assoc}
use Rattle.std.proofs.Common.{IsUtf8}
use Rattle.std.specs.Prelude.{◌≢◌, encode_utf8, if◌then◌else◌, ◌==◌, ◌||◌, ◌&&◌}
use Rattle.std.proofs.lemmas.Bool.{and_parts, eqb-true}
use Rattle.std.proofs.lemmas.Grind.{common_steps}
use Rattle.std.proofs.lemmas.List.{append-nil}
use Rattle.std.proofs.lemmas.Str.{IsUtf8-append, IsUtf8-nil, IsUtf8-take, IsUtf8-drop, IsUtf8-past_char}
use Rattle.std.proofs.lemmas.Str.{IsCharBoundary-before_ascii, IsCharBoundary-after_ascii}
use Rattle.csv.proofs.RecordFacts.{text-more}
use Rattle.csv.specs.Machine.{Read, next_record, ends_at_end, step, in_field, start_field, start_record}
use Rattle.csv.specs.Reading.{default_config, records, records_from, records_next, strip_bom, is_bom}
use Rattle.csv.specs.Records.{AllText}
use Rattle.csv.specs.declared.parser.State.{State}
use Rattle.csv.specs.declared.parser.State.TheVariants as st
use Rattle.csv.specs.declared.parser.Action.{Action}
use Rattle.csv.specs.declared.parser.Action.TheVariants as act
use Rattle.csv_sets.specs.Left.{AllRowsText}

pub cut_at_ascii : (p rest : List ℕ) (c : ℕ) → c < 128 → IsUtf8 (p ++ c ∷ rest) → IsUtf8 p × IsUtf8 rest
cut_at_ascii p rest c small h =
    let within : length p < length (p ++ c ∷ rest) = grind (arith, common_steps) in
    let here : get_or (p ++ c ∷ rest) (length p) 0 ≡ c = grind (arith, common_steps) in
    let front : take (length p) (p ++ c ∷ rest) ≡ p = grind (arith, common_steps) in
    let back : drop (length p + 1) (p ++ c ∷ rest) ≡ rest = grind (arith, common_steps) in
    let low : get_or (p ++ c ∷ rest) (length p) 0 < 128 = omega arith in (
      rw front at (IsUtf8-take (p ++ c ∷ rest) (length p) h (IsCharBoundary-before_ascii _ _ within low)),
      rw back at (IsUtf8-drop (p ++ c ∷ rest) (length p + 1) h (IsCharBoundary-after_ascii _ _ h within low)),
    )

-- no comment is open
abbrev plain : State → Bool
plain st.StartRecord = true
plain st.StartField = true
plain st.InField = true
plain st.InQuoted = true
plain st.AfterQuote = true
plain st.InEscape = true
plain st.InComment = false
plain st.AfterCr = true

-- a byte joins the field at hand, or it is ASCII
record Good (q : State × Action) (c : ℕ) : Type 0 where
  pub joins : (q.1 ≡ act.Copy) ⊎ (c < 128)
  pub stays : plain q.0 ≡ true

low : (c n : ℕ) → (c == n) ≡ true → n < 128 → c < 128
low c n e h = grind (arith, common_steps)

-- a step at a byte that is this one of ASCII
ends_at : {q : State × Action} (c n : ℕ) → (c == n) ≡ true → n < 128 → plain q.0 ≡ true → Good q c
ends_at c n e h stays = record { joins = inr (low c n e h); stays = stays }

in_field_good : (c : ℕ) → Good (in_field default_config c) c
in_field_good c = by (c == 44) (c == 13) (c == 10) refl refl refl
  where
    by : (x y z : Bool) → (c == 44) ≡ x → (c == 13) ≡ y → (c == 10) ≡ z → Good (in_field default_config c) c
    by true y z ex ey ez = rw ex (ends_at c 44 ex (omega arith) refl)
    by false true z ex ey ez = rw (ex, ey) (ends_at c 13 ey (omega arith) refl)
    by false false true ex ey ez = rw (ex, ey, ez) (ends_at c 10 ez (omega arith) refl)
    by false false false ex ey ez = rw (ex, ey, ez) (record { joins = inl refl; stays = refl })

start_field_good : (c : ℕ) → Good (start_field default_config c) c
start_field_good c = by (c == 34) refl
  where
    by : (x : Bool) → (c == 34) ≡ x → Good (start_field default_config c) c
    by true ex = rw ex (ends_at c 34 ex (omega arith) refl)
    by false ex = rw ex (in_field_good c)

good_if : (b : Bool) (x y : State × Action) (c : ℕ) → (b ≡ true → Good x c) → (b ≡ false → Good y c) → Good (if b then x else y) c
good_if true x y c f g = f refl
good_if false x y c f g = g refl

or_low : (c : ℕ) (a b : Bool) → (a ≡ true → c < 128) → (b ≡ true → c < 128) → (a || b) ≡ true → c < 128
or_low c true b f g e = f refl
or_low c false true f g e = g refl
or_low c false false f g e = cc e

start_record_good : (c : ℕ) → Good (start_record default_config c) c
start_record_good c =
    good_if ((c == 13) || (c == 10)) _ _ c
    (λ e. record { joins = inr (or_low c (c == 13) (c == 10) (λ x. low c 13 x (omega arith)) (λ x. low c 10 x (omega arith)) e); stays = refl })
    (λ _. start_field_good c)

step_good : (s : State) (c : ℕ) → plain s ≡ true → Good (step default_config s c) c
step_good st.StartRecord c h = start_record_good c
step_good st.StartField c h = start_field_good c
step_good st.InField c h = in_field_good c
step_good st.InQuoted c h = by (c == 34) refl
  where
    by : (x : Bool) → (c == 34) ≡ x → Good (step default_config st.InQuoted c) c
    by true ex = rw ex (ends_at c 34 ex (omega arith) refl)
    by false ex = rw ex (record { joins = inl refl; stays = refl })
step_good st.AfterQuote c h = by (c == 34) refl
  where
    by : (x : Bool) → (c == 34) ≡ x → Good (step default_config st.AfterQuote c) c
    by true ex = rw ex (record { joins = inl refl; stays = refl })
    by false ex = rw ex (in_field_good c)
step_good st.InEscape c h = record { joins = inl refl; stays = refl }
step_good st.InComment c h = cc h
step_good st.AfterCr c h =
    good_if (c == 10) _ _ c (λ x. ends_at c 10 x (omega arith) refl) (λ _. start_record_good c)

-- what a record of text is
record IsText (q : Read) : Type 0 where
  pub cells : AllText q.0
  pub rest : IsUtf8 q.2
  pub stays : plain q.1 ≡ true

ascii : (q : State × Action) (action : Action) (c : ℕ) → q.1 ≡ action → act.Copy ≢ action → Good q c → c < 128
ascii q action c is other good = elim good.joins [ inl same ↦ absurd (other (sym same ∙ is)) | inr small ↦ small ]

module _ (q : Read) where
  -- what is read on from a state is text, where the fields so far, and the started field with the bytes that are left, are
  abbrev ReadsText : State → List (List ℕ) → List ℕ → List ℕ → Type 0
  ReadsText state fields started left =
      AllText fields → IsUtf8 (started ++ left) → next_record default_config state fields started left ≡ Some q → IsText q

  module _ (state : State) (c : ℕ) (rest : List ℕ) (good : Good (step default_config state c) c) where
    abbrev next : State × Action
    next = step default_config state c

    -- the texts before and behind a byte that isn't copied
    cut : (started : List ℕ) (action : Action) → next.1 ≡ action → act.Copy ≢ action → IsUtf8 (started ++ c ∷ rest) → IsUtf8 started × IsUtf8 rest
    cut started action is other utf8 = cut_at_ascii started rest c (ascii next action c is other good) utf8

    one_step : (fields : List (List ℕ)) (started : List ℕ) (action : Action) → next.1 ≡ action → ((fields' : List (List ℕ)) (started' : List ℕ) → ReadsText next.0 fields' started' rest)
        → ReadsText state fields started (c ∷ rest)
    unfolding next_record
    one_step fields started act.Copy is more text utf8 read = more fields (started ++ c ∷ []) text (rw append_assoc utf8) (rw is at read)
    one_step fields started act.Skip is more text utf8 read =
        let parts = cut started act.Skip is (λ o. cc o) utf8 in
        more fields started text (IsUtf8-append started rest parts.0 parts.1) (rw is at read)
    one_step fields started act.EndField is more text utf8 read =
        let parts = cut started act.EndField is (λ o. cc o) utf8 in
        more (fields ++ started ∷ []) [] (text-more fields started text parts.0) parts.1 (rw is at read)
    one_step fields started act.EndRecord is more text utf8 read =
        let parts = cut started act.EndRecord is (λ o. cc o) utf8 in
        let same : (fields ++ started ∷ [], next.0, rest) ≡ q = cc (rw is at read) in
        rw (← same) (record { cells = text-more fields started text parts.0; rest = parts.1; stays = good.stays })

  at_end : (state : State) (fields : List (List ℕ)) (started : List ℕ) (ends : Bool) → ends_at_end state ≡ ends → ReadsText state fields started []
  unfolding next_record
  at_end state fields started true is text utf8 read =
      let same : (fields ++ started ∷ [], st.StartRecord, []) ≡ q = cc (rw is at read) in
      rw (← same) (record { cells = text-more fields started text (rw (append-nil started) at utf8); rest = IsUtf8-nil; stays = refl })
  at_end state fields started false is text utf8 read = cc (rw is at read)

  text_next : (state : State) (fields : List (List ℕ)) (started left : List ℕ) → plain state ≡ true → ReadsText state fields started left
  text_next state fields started [] stays text utf8 read = at_end state fields started (ends_at_end state) refl text utf8 read
  text_next state fields started (c ∷ rest) stays text utf8 read =
      let good = step_good state c stays in
      one_step state c rest good fields started (step default_config state c).1 refl
      (λ fields' started' text' utf8' read'. text_next (step default_config state c).0 fields' started' rest good.stays text' utf8' read') text utf8 read

rows_next : (n : ℕ) (o : Option Read) → ((q : Read) → o ≡ Some q → IsText q)
    → ((s2 : State) (ys : List ℕ) → plain s2 ≡ true → IsUtf8 ys → AllRowsText (records_from default_config n s2 ys)) → AllRowsText (records_next (records_from default_config n) o)
rows_next n None h more = tt
rows_next n (Some q) h more = let t = h q refl in (t.cells, more q.1 q.2 t.stays t.rest)

rows_text : (n : ℕ) (s : State) (xs : List ℕ) → plain s ≡ true → IsUtf8 xs → AllRowsText (records_from default_config n s xs)
unfolding records_from AllText
rows_text zero s xs h u = tt
rows_text (suc n) s xs h u = rows_next n (next_record default_config s [] [] xs) (λ q e. text_next q s [] [] xs h tt u e) (rows_text n)

mark : (a b c : ℕ) (rest : List ℕ) → is_bom a b c ≡ true → a ∷ b ∷ c ∷ rest ≡ encode_utf8 0xFEFF ++ rest
unfolding lib.Utf8.encode
mark a b c rest e =
    let first = and_parts ((a == 0xEF) && (b == 0xBB)) (c == 0xBF) e in
    let second = and_parts (a == 0xEF) (b == 0xBB) first.0 in
    rw (eqb-true a 0xEF second.0, eqb-true b 0xBB second.1, eqb-true c 0xBF first.1) refl

-- the mark is one character
without_mark : (xs : List ℕ) → IsUtf8 xs → IsUtf8 (strip_bom xs)
unfolding strip_bom
without_mark [] u = u
without_mark (a ∷ []) u = u
without_mark (a ∷ b ∷ []) u = u
without_mark (a ∷ b ∷ c ∷ rest) u = by (is_bom a b c) refl
  where
    by : (x : Bool) → is_bom a b c ≡ x → IsUtf8 (if x then rest else a ∷ b ∷ c ∷ rest)
    by true e = IsUtf8-past_char (a ∷ b ∷ c ∷ rest) rest 0xFEFF u (mark a b c rest e)
    by false e = u

-- the records of a text are text
pub cells_text : (bytes : List ℕ) (rs : List (List (List ℕ))) → rs ≡ records default_config (strip_bom bytes) → IsUtf8 bytes → AllRowsText rs
cells_text bytes rs e u = rw e (rows_text _ st.StartRecord (strip_bom bytes) refl (without_mark bytes u))

few_next : (n : ℕ) (o : Option Read) → ((s : State) (ys : List ℕ) → length (records_from default_config n s ys) ≤ n) → length (records_next (records_from default_config n) o) ≤ suc n
few_next n None more = omega arith
few_next n (Some q) more = let i = more q.1 q.2 in omega (arith, i)

-- a text has no more records than turns
few_from : (n : ℕ) (s : State) (xs : List ℕ) → length (records_from default_config n s xs) ≤ n
unfolding records_from
few_from zero s xs = omega arith
few_from (suc n) s xs = few_next n (next_record default_config s [] [] xs) (few_from n)

shorter : (xs : List ℕ) → length (strip_bom xs) ≤ length xs
unfolding strip_bom
shorter [] = omega arith
shorter (a ∷ []) = omega arith
shorter (a ∷ b ∷ []) = omega arith
shorter (a ∷ b ∷ c ∷ rest) = by (is_bom a b c)
  where
    by : (x : Bool) → length (if x then rest else a ∷ b ∷ c ∷ rest) ≤ length (a ∷ b ∷ c ∷ rest)
    by true = omega arith
    by false = omega arith

-- a text has at most one record more than bytes
pub few_records : (bytes : List ℕ) (rs : List (List (List ℕ))) → rs ≡ records default_config (strip_bom bytes) → length rs ≤ length bytes + 1
few_records bytes rs e =
    let few = few_from (length (strip_bom bytes) + 1) st.StartRecord (strip_bom bytes) in
    let short = shorter bytes in
    rw e (omega (arith, few, short))
