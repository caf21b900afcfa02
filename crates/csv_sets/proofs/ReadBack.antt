-- What a file is written of is read back from it.
use Rattle.std.proofs.Common.{◌≡◌, ◌≤◌, ◌+◌, ◌==◌, ℕ, List, [], ◌∷◌, ◌++◌, map, drop, length, Bool, true, false, Option}
use Rattle.std.proofs.Common.{Some, None, Result, Ok, Err, not, refl, sym, ap, ◌∙◌, append_assoc, arith, bytes_eq}
use Rattle.std.proofs.Common.{codes, nat_lt, Global, Vec, IfOk}
use Rattle.std.proofs.lemmas.Bool.{and_parts, eq-eqb}
use Rattle.std.proofs.lemmas.Bool.Decides.{nat_tests}
use Rattle.std.proofs.lemmas.List.{append-nil, length-append, length-map, map_push}
use Rattle.std.proofs.lemmas.List.Elements.{recursion_from_All}
use Rattle.std.proofs.lemmas.List.Folds.{list_any-append}
use Rattle.roster_types.proofs.Fitting.{table-common}
use Rattle.std.proofs.lemmas.Str.{is_utf8-from_IsUtf8}
use Rattle.std.specs.List.{All, AllByRecursion, IsDistinct}
use Rattle.csv.specs.Reading.{default_config, records, strip_bom}
use Rattle.roster_base.specs.Order.{RiseBy}
use Rattle.roster_base.specs.declared.memory.NoMemory.{NoMemory}
use Rattle.roster_texts.specs.Texts.{is_id}
use Rattle.roster_texts.specs.Trim.{trimmed}
use Rattle.roster_types.specs.Lengths.{row_length}
use Rattle.roster_types.specs.Records.{Record, all_values, record_from}
use Rattle.roster_types.specs.Rows.{IsRow, longest, row_from, unless_long}
use Rattle.roster_types.specs.Shapes.{fits_all}
use Rattle.roster_types.specs.declared.set_row.SetRow.{SetRow}
use Rattle.roster_types.specs.declared.status.Status.{Status}
use Rattle.roster_types.specs.declared.status.Status.TheVariants.{Active, ToBeDeleted}
use Rattle.roster_values.proofs.CellLaws.{cell_reads}
use Rattle.roster_values.specs.declared.kind.Kind.{Kind}
use Rattle.roster_values.specs.declared.mode.Mode.{Mode}
use Rattle.roster_values.specs.declared.mode.Mode.TheVariants.{Bulk, Delta}
use Rattle.roster_values.specs.declared.value.Value.{Value}
use Rattle.roster_values.specs.Fit.{fits}
use Rattle.roster_values.specs.Table.{Info, common_fields, info_in, is_required_in, table}
use Rattle.roster_values.specs.Values.{value_of}
use Rattle.roster_types.proofs.Sums.{fields-values}
use Rattle.csv_sets.specs.declared.keys.MetadataKey.{MetadataKey}
use Rattle.csv_sets.specs.Files.{file_of, has_id, largest, rows_after, rows_of}
use Rattle.csv_sets.specs.Left.{AllRowsText}
use Rattle.csv_sets.specs.Rows.{row_at, values_at}
use Rattle.csv_sets.specs.Written.{dated, field_cell, keys_of, lines_text, metadata_cell, written_cells, written_header}
use Rattle.csv_sets.specs.Written.{written_records, written_text}
use Rattle.csv_sets.proofs.HeaderBack.{count_from, header_back, read_header}
use Rattle.csv_sets.proofs.KeyLaws.{AllHave, cell_from, metadata_back, picks, rows_have}
use Rattle.csv_sets.proofs.TextBack.{AllFilled, lines_read, lines_utf8, no_mark}

-- a value is required only where there is one, in both modes
abbrev AllGiven : ℕ → List (Option Value) → Type 0
AllGiven n [] = Unit {0}
AllGiven n (v ∷ vs) = (v ≡ None → common_fields ≤ n) × AllGiven (n + 1) vs

past_common : (n : ℕ) (vs : List (Option Value)) → common_fields ≤ n → AllGiven n vs
past_common n [] h = tt
past_common n (v ∷ vs) h = (λ e. h, past_common (n + 1) vs (omega (arith, h)))

given_values : (r : Record) → AllGiven 0 (all_values r)
given_values r = (λ e. cc e, (λ e. cc e, (λ e. cc e, past_common common_fields r.values (omega arith))))

not_asked : (mode : Mode) (required : Bool) (place : ℕ) → not required ≡ true → common_fields ≤ place → is_required_in mode place required ≡ false
not_asked mode true place h k = cc h
not_asked Bulk false place h k = refl
not_asked Delta false place h k = grind (arith, nat_tests)

cell_back : (mode : Mode) (place : ℕ) (i : Info) (v : Option Value) → fits i v ≡ true → (v ≡ None → common_fields ≤ place) → value_of (info_in mode place i) (field_cell v) ≡ Ok v
unfolding value_of trimmed
cell_back mode place i (Some v) h given = cell_reads (info_in mode place i) v h
cell_back mode place i None h given = rw (not_asked mode i.required place h (given refl)) refl

values_back : (mode : Mode) (place : ℕ) (is : List Info) (vs : List (Option Value)) (more cells : List (List ℕ)) → fits_all is vs ≡ true → AllGiven place vs → drop place cells ≡ map field_cell vs ++ more
    → values_at mode place is (count_from place is) cells ≡ Ok vs
unfolding values_at
values_back mode place [] [] more cells h given d = refl
values_back mode place [] (v ∷ vs) more cells h given d = cc h
values_back mode place (i ∷ is) [] more cells h given d = cc h
values_back mode place (i ∷ is) (v ∷ vs) more cells h given d =
    let parts = and_parts (fits i v) (fits_all is vs) h in
    let c = cell_from cells place (field_cell v) (map field_cell vs ++ more) d in
    rw (c.0, cell_back mode place i v parts.0 given.0, values_back mode (place + 1) is vs more cells parts.1 given.1 c.1) refl

drop_front : (xs ys : List (List ℕ)) (n : ℕ) → n ≡ length xs → drop n (xs ++ ys) ≡ ys
drop_front [] ys n e = rw e refl
drop_front (x ∷ xs) ys n e = rw e (drop_front xs ys (length xs) refl)

status_back : (r : Record) (status : Status) → r.status ≡ status → record_from r.kind (all_values r) r.metadata ≡ r
status_back r Active e = rw e refl
status_back r ToBeDeleted e = rw e refl

row_back : (r : Record) → IsRow r → row_from r.kind (all_values r) r.metadata ≡ Some r
row_back r h =
    let short : nat_lt longest (row_length r) ≡ false = grind (arith, nat_tests, h.short) in
    ap unless_long (status_back r r.status refl) ∙ rw short refl

record_back : (kind : Kind) (mode : Mode) (ks : List MetadataKey) (r : Record) → r.kind ≡ kind → IsRow r → RiseBy (λ k. k.key) ks → AllHave ks r.metadata → row_at kind mode (read_header kind ks) (written_cells ks r) ≡ Ok (dated r)
unfolding row_at
record_back kind mode ks r k h rise have =
    let front = map field_cell (all_values r) in
    let behind = map (λ (k2 : MetadataKey). metadata_cell r.metadata k2.key) ks in
    let size = fields-values r h.fitting in
    let long : length front ≡ length (table r.kind) = length-map (all_values r) field_cell ∙ sym size in
    let width : (length (front ++ behind) == (length (table r.kind) + length ks)) ≡ true = eq-eqb _ _ (length-append front behind ∙ omega (arith, long, length-map ks (λ (k2 : MetadataKey). metadata_cell r.metadata k2.key))) in
    let values = values_back mode 0 (table r.kind) (all_values r) behind (front ++ behind) h.fitting.values (given_values r) refl in
    let metadata = metadata_back (front ++ behind) (length (table r.kind)) r.metadata ks (picks r.metadata ks h.fitting.metadata.rise rise have) rise h.fitting.metadata.plain (drop_front front behind (length (table r.kind)) (sym long)) in
    rw (← k, width, values, metadata, row_back r h) refl

-- rows whose ids differ from those before
other_ids : (front : List Record) (row : Record) (rows : List Record) → AllByRecursion (λ (r : Record). has_id r.id (map dated front) ≡ false) rows → AllByRecursion (λ y. bytes_eq row.id y ≡ false) (map (λ (r : Record). r.id) rows)
    → AllByRecursion (λ (r : Record). has_id r.id (map dated (front ++ row ∷ [])) ≡ false) rows
other_ids front row [] h d = tt
other_ids front row (r ∷ rows) h d = (one_more front r.id h.0 d.0, other_ids front row rows h.1 d.1)
  where
    one_more : (front2 : List Record) (id : List ℕ) → has_id id (map dated front2) ≡ false → bytes_eq row.id id ≡ false → has_id id (map dated (front2 ++ row ∷ [])) ≡ false
    one_more front2 id h2 d2 = rw (map_push dated front2 row, list_any-append (λ (r2 : SetRow). bytes_eq r2.row.id id) (map dated front2) (dated row ∷ []), h2, d2) refl

rows_back : (kind : Kind) (mode : Mode) (ks : List MetadataKey) (front rows : List Record) (number : ℕ) → RiseBy (λ k. k.key) ks → AllByRecursion (λ (r : Record). r.kind ≡ kind) rows → AllByRecursion IsRow rows
    → AllByRecursion (λ (r : Record). AllHave ks r.metadata) rows → IsDistinct bytes_eq (map (λ (r : Record). r.id) rows) → AllByRecursion (λ (r : Record). has_id r.id (map dated front) ≡ false) rows
    → rows_after kind mode (read_header kind ks) (map dated front) number (map (written_cells ks) rows) ≡ Ok (map dated (front ++ rows))
unfolding rows_after IsDistinct
rows_back kind mode ks front [] number rise kinds good have differ fresh = ap (λ rs. Ok (map dated rs)) (sym (append-nil front))
rows_back kind mode ks front (r ∷ rows) number rise kinds good have differ fresh =
    let more = rows_back kind mode ks (front ++ r ∷ []) rows (number + 1) rise kinds.1 good.1 have.1 differ.1 (other_ids front r rows fresh.1 differ.0) in
    rw (record_back kind mode ks r kinds.0 good.0 rise have.0, fresh.0, ← map_push dated front r) (more ∙ ap (λ rs. Ok (map dated rs)) (append_assoc front (r ∷ []) rows))

none_before : (rows : List Record) → AllByRecursion (λ (r : Record). has_id r.id [] ≡ false) rows
none_before [] = tt
none_before (r ∷ rows) = (refl, none_before rows)

filled_rows : (ks : List MetadataKey) (rows : List Record) → AllFilled (map (written_cells ks) rows)
filled_rows ks [] = tt
filled_rows ks (r ∷ rows) = filled_rows ks rows

-- the first column is that of the id
starts : (kind : Kind) (ks : List MetadataKey) → (xs : List (List ℕ)) × (written_header kind ks ≡ codes "sourcedId" ∷ xs)
starts kind ks = (_, ap (λ (is : List Info). map (λ i. i.column) is ++ map (λ (k : MetadataKey). codes "metadata." ++ k.key) ks) (table-common kind))

records_back : (header xs : List (List ℕ)) (rest : List (List (List ℕ))) → header ≡ codes "sourcedId" ∷ xs → AllFilled rest → records default_config (strip_bom (lines_text (header ∷ rest))) ≡ header ∷ rest
records_back header xs rest e filled = rw e (ap (λ t. records default_config t) (no_mark xs rest) ∙ lines_read ((codes "sourcedId" ∷ xs) ∷ rest) filled)

within_largest : (n : ℕ) → n ≤ largest → nat_lt largest n ≡ false
within_largest n h = grind (arith, nat_tests)

-- the rows of a file that was written, in both modes
pub read_back : (kind : Kind) (mode : Mode) (rows : List Record) → AllRowsText (written_records kind rows) → All (λ (k : MetadataKey). is_id k.key ≡ true) (keys_of rows) → RiseBy (λ (k : MetadataKey). k.key) (keys_of rows) → All IsRow rows
    → All (λ (r : Record). r.kind ≡ kind) rows → IsDistinct bytes_eq (map (λ (r : Record). r.id) rows) → length (written_text kind rows) ≤ largest → file_of kind mode (written_text kind rows) ≡ Ok (map dated rows)
unfolding file_of written_text rows_of
read_back kind mode rows plain good rise are kinds differ short =
    let ks = keys_of rows in
    let first = starts kind ks in
    let utf8 = is_utf8-from_IsUtf8 (lines_text (written_records kind rows)) (lines_utf8 (written_records kind rows) plain) in
    let recs = records_back (written_header kind ks) first.0 (map (written_cells ks) rows) first.1 (filled_rows ks rows) in
    let whole = rows_back kind mode ks [] rows 2 rise (recursion_from_All _ rows kinds) (recursion_from_All _ rows are) (rows_have rows) differ (none_before rows) in
    rw (within_largest (length (lines_text (written_records kind rows))) short, utf8, recs, header_back kind mode ks (recursion_from_All _ ks good) rise) whole

pub given_back : (kind : Kind) (rows : List Record) (t : List ℕ) (r : Result (Vec ℕ Global) NoMemory) → IfOk r (λ v. v.items ≡ t) → ((mode : Mode) → length t ≤ largest → file_of kind mode t ≡ Ok (map dated rows))
    → IfOk r (λ v. (mode : Mode) → length v.items ≤ largest → file_of kind mode v.items ≡ Ok (map dated rows))
given_back kind rows t (Ok v) e h = rw e h
given_back kind rows t (Err f) e h = tt
