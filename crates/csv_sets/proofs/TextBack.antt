-- Lines that are written are read back as their cells, and are text where their cells are.
use Rattle.std.proofs.Common.{◌≡◌, ◌<◌, ◌==◌, ℕ, List, [], ◌∷◌, ◌++◌, Bool, true, false, Some, None, codes, refl, ap}
use Rattle.std.proofs.Common.{◌∙◌, append_assoc, arith, IsUtf8}
use Rattle.std.specs.Prelude.{if◌then◌else◌, ⊤}
use Rattle.std.specs.List.{list_any}
use Rattle.std.proofs.lemmas.Bool.{eqb-true}
use Rattle.std.proofs.lemmas.Str.{IsUtf8-append, IsUtf8-from_ascii, IsUtf8-nil}
use Rattle.std.proofs.lemmas.Str.Ascii.{IsAscii-cons, IsAscii-nil}
use Rattle.csv.proofs.RoundTrip.{read-write}
use Rattle.csv.specs.Machine.{next_record}
use Rattle.csv.specs.Reading.{default_config, strip_bom}
use Rattle.csv.specs.Records.{AllText}
use Rattle.csv.specs.Writing.{default_writer, escaped, field_text, fields_text, is_blank, needs_byte, row_body}
use Rattle.csv.specs.Writing.{row_text}
use Rattle.csv.specs.declared.parser.State.TheVariants as st
use Rattle.csv_sets.specs.Left.{AllRowsText, records_of_text}
use Rattle.csv_sets.specs.Written.{lines_text}
use Rattle.csv_sets.proofs.RecordLaws.{records-next, records-none}
use Rattle.csv_sets.proofs.TextLaws.{cut_at_ascii}

-- each record has a cell
abbrev pub AllFilled : List (List (List ℕ)) → Type 0
AllFilled [] = ⊤
AllFilled ([] ∷ rs) = ⊥
AllFilled ((x ∷ xs) ∷ rs) = AllFilled rs

nothing_next : next_record default_config st.StartRecord [] [] [] ≡ None
unfolding next_record
nothing_next = refl

pub lines_read : (rs : List (List (List ℕ))) → AllFilled rs → records_of_text st.StartRecord (Some (lines_text rs)) ≡ rs
unfolding lines_text
lines_read [] h = records-none st.StartRecord [] nothing_next
lines_read ([] ∷ rs) h = absurd h
lines_read ((x ∷ xs) ∷ rs) h =
    records-next st.StartRecord (row_text default_writer (x ∷ xs) ++ lines_text rs) (x ∷ xs, st.StartRecord, lines_text rs) (read-write (x ∷ xs) (lines_text rs))
    ∙ ap (λ more. (x ∷ xs) ∷ more) (lines_read rs h)

-- a text of lines begins with no byte order mark
pub no_mark : (xs : List (List ℕ)) (rs : List (List (List ℕ))) → strip_bom (lines_text ((codes "sourcedId" ∷ xs) ∷ rs)) ≡ lines_text ((codes "sourcedId" ∷ xs) ∷ rs)
unfolding strip_bom lines_text is_blank
no_mark [] rs = refl
no_mark (y ∷ xs) rs = refl

one_ascii : (b : ℕ) → b < 128 → IsUtf8 (b ∷ [])
one_ascii b small = IsUtf8-from_ascii (b ∷ []) (IsAscii-cons b [] small IsAscii-nil)

ascii : (b : ℕ) (t : List ℕ) → IsUtf8 (b ∷ []) → IsUtf8 t → IsUtf8 (b ∷ t)
ascii b t h u = IsUtf8-append (b ∷ []) t h u

escaped_quote : (rest : List ℕ) → escaped default_writer (34 ∷ rest) ≡ 34 ∷ 34 ∷ escaped default_writer rest
unfolding escaped
escaped_quote rest = refl

escaped_other : (b : ℕ) (rest : List ℕ) → (b == 34) ≡ false → escaped default_writer (b ∷ rest) ≡ b ∷ escaped default_writer rest
unfolding escaped
escaped_other b rest n = rw n refl

quote_text : IsUtf8 (34 ∷ [])
quote_text = one_ascii 34 (omega arith)

escaped_step : (p : List ℕ) (b : ℕ) (rest : List ℕ) (same : Bool) → (b == 34) ≡ same → IsUtf8 (p ++ b ∷ rest) → (IsUtf8 rest → IsUtf8 (escaped default_writer rest))
    → (IsUtf8 ((p ++ b ∷ []) ++ rest) → IsUtf8 ((p ++ b ∷ []) ++ escaped default_writer rest)) → IsUtf8 (p ++ escaped default_writer (b ∷ rest))
escaped_step p b rest true e u alone on =
    let is : b ≡ 34 = eqb-true b 34 e in
    let parts = cut_at_ascii p rest 34 (omega arith) (rw is at u) in
    rw (is, escaped_quote rest) (IsUtf8-append p (34 ∷ 34 ∷ escaped default_writer rest) parts.0 (ascii 34 _ quote_text (ascii 34 _ quote_text (alone parts.1))))
escaped_step p b rest false e u alone on = rw (escaped_other b rest e) (rw append_assoc at (on (rw append_assoc u)))

escaped_utf8 : (p x : List ℕ) → IsUtf8 (p ++ x) → IsUtf8 (p ++ escaped default_writer x)
unfolding escaped
escaped_utf8 p [] u = u
escaped_utf8 p (b ∷ rest) u = escaped_step p b rest (b == 34) refl u (λ h. escaped_utf8 [] rest h) (λ h. escaped_utf8 (p ++ b ∷ []) rest h)

field_utf8 : (x : List ℕ) → IsUtf8 x → IsUtf8 (field_text default_writer x)
field_utf8 x u = by (list_any (needs_byte default_writer) x)
  where
    by : (b : Bool) → IsUtf8 (if b then 34 ∷ (escaped default_writer x ++ 34 ∷ []) else x)
    by true = ascii 34 _ quote_text (IsUtf8-append (escaped default_writer x) (34 ∷ []) (escaped_utf8 [] x u) quote_text)
    by false = u

fields_utf8 : (xs : List (List ℕ)) → AllText xs → IsUtf8 (fields_text default_writer xs)
unfolding fields_text AllText
fields_utf8 [] t = IsUtf8-nil
fields_utf8 (x ∷ xs) t = ascii 44 _ (one_ascii 44 (omega arith)) (IsUtf8-append (field_text default_writer x) (fields_text default_writer xs) (field_utf8 x t.0) (fields_utf8 xs t.1))

body_utf8 : (xs : List (List ℕ)) → AllText xs → IsUtf8 (row_body default_writer xs)
unfolding AllText
body_utf8 [] t = IsUtf8-nil
body_utf8 (x ∷ xs) t = IsUtf8-append (field_text default_writer x) (fields_text default_writer xs) (field_utf8 x t.0) (fields_utf8 xs t.1)

row_utf8 : (xs : List (List ℕ)) → AllText xs → IsUtf8 (row_text default_writer xs)
row_utf8 xs t = IsUtf8-append (row_body default_writer xs) _ (body_utf8 xs t) (by (is_blank default_writer xs))
  where
    by : (b : Bool) → IsUtf8 ((if b then 34 ∷ 34 ∷ [] else []) ++ 10 ∷ [])
    by true = ascii 34 _ quote_text (ascii 34 _ quote_text (one_ascii 10 (omega arith)))
    by false = one_ascii 10 (omega arith)

pub lines_utf8 : (rs : List (List (List ℕ))) → AllRowsText rs → IsUtf8 (lines_text rs)
unfolding lines_text
lines_utf8 [] t = IsUtf8-nil
lines_utf8 (r ∷ rs) t = IsUtf8-append (row_text default_writer r) (lines_text rs) (row_utf8 r t.0) (lines_utf8 rs t.1)
