-- The lines of a file that is written, one by one.
use Rattle.std.proofs.Common.{◌≡◌, ◌≤◌, ◌<◌, ◌+◌, ℕ, List, [], ◌∷◌, ◌++◌, length, drop, take, map, get_or, Option, None}
use Rattle.std.proofs.Common.{refl, sym, ap, ◌∙◌, append_assoc, String, Vec, Global, string_bytes}
use Rattle.std.proofs.lemmas.List.{append-nil, drop_all, map_push, take_more}
use Rattle.std.proofs.lemmas.List.Elements.{All-nil, All-push}
use Rattle.std.proofs.lemmas.Str.{IsUtf8-string_bytes}
use Rattle.std.specs.List.{All}
use Rattle.csv.specs.Records.{AllText}
use Rattle.csv.specs.Writing.{default_writer, row_text}
use Rattle.csv.specs.declared.writer.Writer.{Writer}
use Rattle.roster_types.specs.Records.{Record}
use Rattle.roster_types.specs.Rows.{IsRow}
use Rattle.csv_sets.specs.declared.keys.MetadataKey.{MetadataKey}
use Rattle.csv_sets.specs.Left.{AllRowsText}
use Rattle.csv_sets.specs.Lines.{IsFresh, text_in}
use Rattle.csv_sets.specs.Written.{all_keys, entry_key, field_cell, lines_text, written_cells}
use Rattle.roster_values.specs.declared.fields.FieldInfo.{FieldInfo}
use Rattle.roster_values.specs.declared.value.Value.{Value}
use Rattle.roster_values.specs.Table.{info_of}

-- the bytes of texts are text
pub texts_plain : (cells : List (String Global)) → AllText (map string_bytes cells)
unfolding AllText
texts_plain [] = tt
texts_plain (s ∷ cells) = (IsUtf8-string_bytes s, texts_plain cells)

-- how far the writing of the rows has come
pub record Lines (keys : List MetadataKey) (rows : List Record) (first now : Writer (Vec ℕ Global)) (place : ℕ) : Type 0 where
  pub same : text_in now ++ lines_text (map (written_cells keys) (drop place rows)) ≡ text_in first ++ lines_text (map (written_cells keys) rows)
  pub fresh : IsFresh now
  pub plain : AllRowsText (map (written_cells keys) (take place rows))
  pub good : All IsRow (take place rows)

pub lines_start : (keys : List MetadataKey) (rows : List Record) (first : Writer (Vec ℕ Global)) → IsFresh first → Lines keys rows first first 0
lines_start keys rows first fresh = record { same = refl; fresh = fresh; plain = tt; good = All-nil IsRow }

plain_push : (rs : List (List (List ℕ))) (r : List (List ℕ)) → AllRowsText rs → AllText r → AllRowsText (rs ++ r ∷ [])
plain_push [] r h t = (t, tt)
plain_push (x ∷ rs) r h t = (h.0, plain_push rs r h.1 t)

map_one : (keys : List MetadataKey) (rows : List Record) (row : Record) → map (written_cells keys) (rows ++ row ∷ []) ≡ map (written_cells keys) rows ++ written_cells keys row ∷ []
map_one keys [] row = refl
map_one keys (r ∷ rows) row = ap (λ rs. written_cells keys r ∷ rs) (map_one keys rows row)

pub lines_on : {keys : List MetadataKey} {rows : List Record} {first now new : Writer (Vec ℕ Global)} {place : ℕ} (row : Record) → Lines keys rows first now place → drop place rows ≡ row ∷ drop (place + 1) rows
    → take (place + 1) rows ≡ take place rows ++ row ∷ [] → text_in new ≡ text_in now ++ row_text default_writer (written_cells keys row) → IsFresh new → AllText (written_cells keys row) → IsRow row → Lines keys rows first new (place + 1)
unfolding lines_text
lines_on {keys} {rows} {place = place} row l d t new fresh plain good = record {
  same = rw (new, append_assoc) (rw d at l.same);
  fresh = fresh;
  plain = rw (t, map_one keys (take place rows) row) (plain_push (map (written_cells keys) (take place rows)) (written_cells keys row) l.plain plain);
  good = rw t (All-push IsRow (take place rows) row l.good good);
}

pub lines_end : {keys : List MetadataKey} {rows : List Record} {first now : Writer (Vec ℕ Global)} {place : ℕ} → Lines keys rows first now place → length rows ≤ place
    → text_in now ≡ text_in first ++ lines_text (map (written_cells keys) rows)
unfolding lines_text
lines_end {now = now} l past = sym (append-nil (text_in now)) ∙ rw (drop_all _ _ past) at l.same

pub columns-of : (infos : List FieldInfo) → map (λ i. i.column.now) infos ≡ map (λ i. i.column) (map info_of infos)
columns-of [] = refl
columns-of (i ∷ infos) = ap (λ cs. i.column.now ∷ cs) (columns-of infos)

pub all_keys-on : (front : List MetadataKey) (rows rest : List Record) (row : Record) (whole : List MetadataKey) → rows ≡ row ∷ rest → front ++ all_keys rows ≡ whole → (front ++ map entry_key row.metadata) ++ all_keys rest ≡ whole
unfolding all_keys
all_keys-on front rows rest row whole d h = rw append_assoc (rw d at h)

pub all_keys-end : (front : List MetadataKey) (rows : List Record) (whole : List MetadataKey) → rows ≡ [] → front ++ all_keys rows ≡ whole → front ≡ whole
unfolding all_keys
all_keys-end front rows whole d h = sym (append-nil front) ∙ rw d at h

-- one more cell of a row's fields
pub cells_push : (cells : List (String Global)) (values : List (Option Value)) (place : ℕ) (cell : String Global) → map string_bytes cells ≡ map field_cell (take place values) → place < length values
    → string_bytes cell ≡ field_cell (get_or values place None) → map string_bytes (cells ++ cell ∷ []) ≡ map field_cell (take (place + 1) values)
cells_push cells values place cell h within is =
    rw (take_more values place None within, map_push string_bytes cells cell, map_push field_cell (take place values) (get_or values place None), h, is) refl

-- one more cell behind others
pub more_cells : {X : Type 0} (f : X → List ℕ) (cells : List (String Global)) (front : List (List ℕ)) (xs : List X) (i : ℕ) (x : X) (cell : String Global) → map string_bytes cells ≡ front ++ map f (take i xs) → i < length xs
    → x ≡ get_or xs i x → string_bytes cell ≡ f x → map string_bytes (cells ++ cell ∷ []) ≡ front ++ map f (take (i + 1) xs)
more_cells f cells front xs i x cell h within is e =
    rw (take_more xs i x within, map_push string_bytes cells cell, h, e, map_push f (take i xs) (get_or xs i x), ← is) (append_assoc front (map f (take i xs)) (f x ∷ []))
