-- The rows of a file.
use Rattle.std.proofs.Common.{◌≡◌, ◌≤◌, ◌+◌, ◌==◌, ℕ, List, [], ◌∷◌, ◌++◌, length, map, Bool, true, false, not, Option}
use Rattle.std.proofs.Common.{Some, None, Result, Ok, Err, IfOk, refl, arith, bytes_eq, Global, Vec, nat_lt, pos}
use Rattle.std.proofs.Common.{is_some, slice_index_or}
use Rattle.std.proofs.lemmas.Bool.{or_parts}
use Rattle.std.proofs.lemmas.List.Elements.{All-nil, All-push}
use Rattle.std.proofs.lemmas.List.{length-map, map_push}
use Rattle.std.proofs.lemmas.Bool.Decides.{nat_tests}
use Rattle.std.proofs.lemmas.Result.{IfOk-weaker}
use Rattle.std.proofs.lemmas.Str.{IsUtf8-from_is_utf8, is_utf8-from_IsUtf8}
use Rattle.std.specs.List.{All, AllByRecursion, IsDistinct}
use Rattle.std.specs.Str.{is_utf8}
use Rattle.std.specs.Prelude.{IsUtf8, if◌then◌else◌}
use Rattle.csv.specs.Reading.{default_config, records, strip_bom}
use Rattle.roster_base.specs.Reading.{Gives, ◌>>=◌}
use Rattle.roster_base.specs.declared.refusal.Refusal.{Refusal}
use Rattle.roster_types.specs.declared.metadata.Entry.{Entry}
use Rattle.roster_types.specs.declared.set_row.SetRow.{SetRow}
use Rattle.roster_types.specs.Lengths.{row_length}
use Rattle.roster_types.specs.Records.{Record, is_dated, moment_in, record_from}
use Rattle.roster_types.specs.Sets.{IsDatedOrZero}
use Rattle.roster_types.specs.Rows.{longest, row_from}
use Rattle.roster_values.specs.declared.kind.Kind.{Kind}
use Rattle.roster_values.specs.declared.mode.Mode.{Mode}
use Rattle.roster_values.specs.declared.value.Value.{Value}
use Rattle.roster_values.specs.Table.{table}
use Rattle.csv_sets.specs.declared.fault.RowFault.{RowFault}
use Rattle.csv_sets.specs.declared.fault.SetFault.{SetFault}
use Rattle.csv_sets.specs.declared.fault.SetFault.TheVariants.{NotUtf8, RepeatedId}
use Rattle.csv_sets.specs.declared.fault.SetFile.TheVariants.{RowsOf}
use Rattle.csv_sets.specs.Files.{file_of, has_id, in_record, largest, rows_after, rows_of}
use Rattle.csv_sets.specs.Headers.{Header, columns_checked, columns_of, header_from, header_of, place_of}
use Rattle.csv_sets.specs.Headers.{required_checked}
use Rattle.csv_sets.specs.Rows.{metadata_at, row_at, set_row, values_at}

-- a row of this kind, which carries the moment 0 where it brings no date
abbrev IsGoodRow : Kind → SetRow → Type 0
IsGoodRow kind row = (row.row.kind ≡ kind) × IsDatedOrZero row

-- rows of one kind, whose ids differ, and which carry the moment 0 where they bring no date
pub record AreRows (kind : Kind) (rows : List SetRow) : Type 0 where
  pub dates : All IsDatedOrZero rows
  pub kinds : All (λ (r : SetRow). r.row.kind ≡ kind) rows
  pub differ : IsDistinct bytes_eq (map (λ r. r.row.id) rows)

other_push : (id new : List ℕ) (ids : List (List ℕ)) → AllByRecursion (λ y. bytes_eq id y ≡ false) ids → bytes_eq id new ≡ false → AllByRecursion (λ y. bytes_eq id y ≡ false) (ids ++ new ∷ [])
other_push id new [] h e = (e, tt)
other_push id new (x ∷ ids) h e = (h.0, other_push id new ids h.1 e)

distinct_push : (rows : List SetRow) (id : List ℕ) → IsDistinct bytes_eq (map (λ r. r.row.id) rows) → has_id id rows ≡ false → IsDistinct bytes_eq (map (λ r. r.row.id) rows ++ id ∷ [])
unfolding IsDistinct
distinct_push [] id h e = (tt, tt)
distinct_push (r ∷ rows) id h e =
    let parts = or_parts (bytes_eq r.row.id id) (has_id id rows) e in
    (other_push r.row.id id (map (λ r. r.row.id) rows) h.0 parts.0, distinct_push rows id h.1 parts.1)

rows_push : (kind : Kind) (rows : List SetRow) (row : SetRow) → AreRows kind rows → IsGoodRow kind row → has_id row.row.id rows ≡ false → AreRows kind (rows ++ row ∷ [])
rows_push kind rows row h k e = record {
  dates = All-push IsDatedOrZero rows row h.dates k.1;
  kinds = All-push (λ (r : SetRow). r.row.kind ≡ kind) rows row h.kinds k.0;
  differ = rw (map_push (λ (r : SetRow). r.row.id) rows row) (distinct_push rows row.row.id h.differ e);
}

no_date : (date : Option Value) → is_some date ≡ false → moment_in date ≡ pos 0
no_date None e = refl
no_date (Some v) e = cc e

good_short : (dated long : Bool) (r : Record) (row : SetRow) → (dated ≡ false → r.modified ≡ pos 0) → set_row dated (if long then None else Some r) ≡ Ok row → IsGoodRow r.kind row
good_short dated true r row d e = cc e
good_short dated false r row d e = let i : record { row = r; dated = dated } ≡ row = cc e in rw (← i) (refl, d)

good_values : (kind : Kind) (metadata : List Entry) (values : Result (List (Option Value)) RowFault) (row : SetRow) → (values >>= (λ vs. set_row (is_dated vs) (row_from kind vs metadata))) ≡ Ok row
    → IsGoodRow kind row
good_values kind metadata (Ok vs) row e =
    good_short (is_dated vs) (nat_lt longest (row_length (record_from kind vs metadata))) (record_from kind vs metadata) row (no_date (slice_index_or vs 2 None)) e
good_values kind metadata (Err f) row e = cc e

good_width : (same : Bool) (f : RowFault) (read : Result SetRow RowFault) (row : SetRow) → (if not same then Err f else read) ≡ Ok row → read ≡ Ok row
good_width true f read row e = e
good_width false f read row e = cc e

good_row : (kind : Kind) (mode : Mode) (header : Header) (cells : List (List ℕ)) (row : SetRow) → row_at kind mode header cells ≡ Ok row → IsGoodRow kind row
unfolding row_at
good_row kind mode header cells row e =
    good_values kind (metadata_at header.metadata cells) (values_at mode 0 (table kind) header.places cells) row (good_width (length cells == header.width) _ _ row e)

one_record : (kind : Kind) (number : ℕ) (read : Result SetRow RowFault) (row : SetRow) → in_record kind number read ≡ Ok row → read ≡ Ok row
one_record kind number (Ok r) row e = cc e
one_record kind number (Err f) row e = cc e

module _ (kind : Kind) (mode : Mode) (header : Header) (rows : List SetRow) where
  -- the rows behind those in front, where a record spells this row: a fault where its id stands there already
  abbrev after_row : List SetRow → ℕ → List (List (List ℕ)) → SetRow → Bool → Result (List SetRow) SetFault
  after_row front number rest row repeats =
      if repeats then Err (RepeatedId (RowsOf kind) number) else rows_after kind mode header (front ++ row ∷ []) (number + 1) rest

  -- the rows behind those in front, where this was read of the first record
  rows_next : (front : List SetRow) (number : ℕ) (rest : List (List (List ℕ))) (read : Result SetRow RowFault)
      → ((row : SetRow) → read ≡ Ok row → IsGoodRow kind row)
      → ((more : List SetRow) → AreRows kind more → rows_after kind mode header more (number + 1) rest ≡ Ok rows → AreRows kind rows)
      → AreRows kind front → (in_record kind number read >>= (λ row. after_row front number rest row (has_id row.row.id front))) ≡ Ok rows → AreRows kind rows
  rows_next front number rest (Err f) good more h e = cc e
  rows_next front number rest (Ok row) good more h e = by (has_id row.row.id front) refl e
    where
      by : (repeats : Bool) → has_id row.row.id front ≡ repeats → after_row front number rest row repeats ≡ Ok rows → AreRows kind rows
      by true t e = cc e
      by false t e = more (front ++ row ∷ []) (rows_push kind front row h (good row refl) t) e

  rows_are : (front : List SetRow) (number : ℕ) (left : List (List (List ℕ))) → AreRows kind front → rows_after kind mode header front number left ≡ Ok rows → AreRows kind rows
  unfolding rows_after
  rows_are front number [] h e = let i : front ≡ rows = cc e in rw (← i) h
  rows_are front number (cells ∷ rest) h e =
      rows_next front number rest (row_at kind mode header cells) (good_row kind mode header cells) (λ more k e2. rows_are more (number + 1) rest k e2) h e

no_rows : (kind : Kind) → AreRows kind []
unfolding IsDistinct
no_rows kind = record { dates = All-nil IsDatedOrZero; kinds = All-nil (λ (r : SetRow). r.row.kind ≡ kind); differ = tt }

rows_below : (kind : Kind) (mode : Mode) (header : Result Header SetFault) (left : List (List (List ℕ))) (rows : List SetRow) → (header >>= (λ h. rows_after kind mode h [] 2 left)) ≡ Ok rows → AreRows kind rows
rows_below kind mode (Ok h) left rows e = rows_are kind mode h rows [] 2 left (no_rows kind) e
rows_below kind mode (Err f) left rows e = cc e

rows_none : (kind : Kind) (header : Result Header SetFault) (rows : List SetRow) → (header >>= (λ h. Ok [])) ≡ Ok rows → AreRows kind rows
rows_none kind (Ok h) rows e = let i : [] ≡ rows = cc e in rw (← i) (no_rows kind)
rows_none kind (Err f) rows e = cc e

-- the rows of a file are of its kind, and their ids differ
pub rows_of_kind : (kind : Kind) (mode : Mode) (records : List (List (List ℕ))) (rows : List SetRow) → rows_of kind mode records ≡ Ok rows → AreRows kind rows
unfolding rows_of
rows_of_kind kind mode [] rows e = rows_none kind (header_of kind mode []) rows e
rows_of_kind kind mode (cells ∷ rest) rows e = rows_below kind mode (header_of kind mode cells) rest rows e

given_rows : (kind : Kind) (mode : Mode) (records : List (List (List ℕ))) (r : Result (Vec SetRow Global) (Refusal SetFault)) → Gives (λ v. v.items) r (rows_of kind mode records) → IfOk r (λ v. AreRows kind v.items)
given_rows kind mode records (Ok v) g = rows_of_kind kind mode records v.items g
given_rows kind mode records (Err e) g = tt

-- the same of the rows that a reading gave
module _ (kind : Kind) (mode : Mode) (records : List (List (List ℕ))) (r : Result (Vec SetRow Global) (Refusal SetFault)) (given : Gives (λ v. v.items) r (rows_of kind mode records)) where
  pub given_kinds : IfOk r (λ v. All (λ (r : SetRow). r.row.kind ≡ kind) v.items)
  given_kinds = IfOk-weaker r _ _ (λ v are. are.kinds) (given_rows kind mode records r given)

  pub given_differ : IfOk r (λ v. IsDistinct bytes_eq (map (λ (r : SetRow). r.row.id) v.items))
  given_differ = IfOk-weaker r _ _ (λ v are. are.differ) (given_rows kind mode records r given)

  pub given_dates : IfOk r (λ v. All IsDatedOrZero v.items)
  given_dates = IfOk-weaker r _ _ (λ v are. are.dates) (given_rows kind mode records r given)

pub not_too_large : (bytes : List ℕ) → length bytes ≤ largest → nat_lt largest (length bytes) ≡ false
not_too_large bytes h = grind (arith, nat_tests)

-- a file of text that isn't too large has the rows of its records
pub text_file : (kind : Kind) (mode : Mode) (bytes text : List ℕ) (r : Result (Vec SetRow Global) (Refusal SetFault)) → length bytes ≤ largest → text ≡ bytes → IsUtf8 bytes
    → Gives (λ v. v.items) r (rows_of kind mode (records default_config (strip_bom text))) → Gives (λ v. v.items) r (file_of kind mode bytes)
unfolding file_of
text_file kind mode bytes text r short same u g = rw (not_too_large bytes short, is_utf8-from_IsUtf8 bytes u) (rw same at g)

-- a file that is no text
pub other_file : (kind : Kind) (mode : Mode) (bytes : List ℕ) → length bytes ≤ largest → ¬ IsUtf8 bytes → file_of kind mode bytes ≡ Err (NotUtf8 (RowsOf kind))
unfolding file_of
other_file kind mode bytes short h = by (is_utf8 bytes) refl
  where
    by : (b : Bool) → is_utf8 bytes ≡ b → file_of kind mode bytes ≡ Err (NotUtf8 (RowsOf kind))
    by true e = absurd (h (IsUtf8-from_is_utf8 bytes e))
    by false e = rw (not_too_large bytes short, e) refl

places_below : (kind : Kind) (whole : Result Bool SetFault) (columns : List (List ℕ)) (h : Header) → (whole >>= (λ w. Ok (header_from kind columns))) ≡ Ok h → length h.places ≡ length (table kind)
unfolding header_from
places_below kind (Ok w) columns h e = let i : header_from kind columns ≡ h = cc e in rw (← i) (length-map (table kind) (λ c. place_of columns c.column))
places_below kind (Err f) columns h e = cc e

-- a header has a place for each field
pub header_places : (kind : Kind) (mode : Mode) (cells : List (List ℕ)) (h : Header) → header_of kind mode cells ≡ Ok h → length h.places ≡ length (table kind)
unfolding header_of
header_places kind mode cells h e = by (columns_checked kind [] (columns_of cells)) e
  where
    by : (read : Result Bool SetFault) → (read >>= (λ r. required_checked kind mode (columns_of cells) 0 (table kind) >>= (λ w. Ok (header_from kind (columns_of cells))))) ≡ Ok h → length h.places ≡ length (table kind)
    by (Ok r) e = places_below kind (required_checked kind mode (columns_of cells) 0 (table kind)) (columns_of cells) h e
    by (Err f) e = cc e
