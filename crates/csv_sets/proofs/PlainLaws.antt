-- A file is read to its rows exactly where its header is good, each record spells its row, and the ids differ.
use Rattle.std.proofs.Common.{◌≡◌, ◌+◌, ℕ, List, [], ◌∷◌, ◌++◌, append_assoc, append-nil, bytes_eq, cond, length, map}
use Rattle.std.proofs.Common.{nat_lt, Bool, true, false, not, Result, Ok, Err, IfOk, Vec, Global, refl, sym, ap, ◌∙◌}
use Rattle.std.proofs.Common.{subst, arith}
use Rattle.std.proofs.lemmas.Bool.Decides.{nat_tests}
use Rattle.std.specs.List.{AllByRecursion, AllZip, IsDistinct}
use Rattle.std.specs.Prelude.{if◌then◌else◌}
use Rattle.std.specs.Str.{is_utf8}
use Rattle.csv.specs.Reading.{default_config, records, strip_bom}
use Rattle.roster_base.specs.Reading.{Gives, ◌>>=◌}
use Rattle.roster_base.specs.declared.refusal.Refusal.{Refusal}
use Rattle.roster_types.specs.declared.set_row.SetRow.{SetRow}
use Rattle.roster_values.specs.declared.kind.Kind.{Kind}
use Rattle.roster_values.specs.declared.mode.Mode.{Mode}
use Rattle.csv_sets.specs.declared.fault.RowFault.{RowFault}
use Rattle.csv_sets.specs.declared.fault.SetFault.{SetFault}
use Rattle.csv_sets.specs.declared.fault.SetFault.TheVariants.{NotUtf8, RepeatedId, TooLarge}
use Rattle.csv_sets.specs.declared.fault.SetFile.TheVariants.{RowsOf}
use Rattle.csv_sets.specs.Files.{AreRowsIn, AreRowsOf, file_of, has_id, in_record, largest, rows_after, rows_of}
use Rattle.csv_sets.specs.Headers.{Header, header_of}
use Rattle.csv_sets.specs.Rows.{row_at}
use Rattle.csv_sets.proofs.FileSteps.{rows_of_kind, not_too_large}

module _ (kind : Kind) (mode : Mode) (header : Header) where
  abbrev Spells : List (List ℕ) → SetRow → Type 0
  Spells cells row = row_at kind mode header cells ≡ Ok row

  -- behind others stand the rows that the records spell
  abbrev Behind : List SetRow → List (List (List ℕ)) → List SetRow → Type 0
  Behind front left rows = (more : List SetRow) × (rows ≡ front ++ more) × AllZip Spells left more

  spelled_next : (front : List SetRow) (number : ℕ) (cells : List (List ℕ)) (rest : List (List (List ℕ))) (rows : List SetRow) (read : Result SetRow RowFault) → row_at kind mode header cells ≡ read
      → ((more : List SetRow) → rows_after kind mode header more (number + 1) rest ≡ Ok rows → Behind more rest rows)
      → (in_record kind number read >>= (λ row. if has_id row.row.id front then Err (RepeatedId (RowsOf kind) number) else rows_after kind mode header (front ++ row ∷ []) (number + 1) rest)) ≡ Ok rows
      → Behind front (cells ∷ rest) rows
  spelled_next front number cells rest rows (Err f) is more e = cc e
  spelled_next front number cells rest rows (Ok row) is more e = by (has_id row.row.id front) e
    where
      by : (there : Bool) → (if there then Err (RepeatedId (RowsOf kind) number) else rows_after kind mode header (front ++ row ∷ []) (number + 1) rest) ≡ Ok rows → Behind front (cells ∷ rest) rows
      by true e = cc e
      by false e = let behind = more (front ++ row ∷ []) e in (row ∷ behind.0, behind.1 ∙ append_assoc front (row ∷ []) behind.0, (is, behind.2))

  pub spelled_after : (front : List SetRow) (number : ℕ) (left : List (List (List ℕ))) (rows : List SetRow) → rows_after kind mode header front number left ≡ Ok rows → Behind front left rows
  unfolding rows_after
  spelled_after front number [] rows e = let same : front ≡ rows = cc e in ([], sym same ∙ sym (append-nil front), tt)
  spelled_after front number (cells ∷ rest) rows e =
      spelled_next front number cells rest rows (row_at kind mode header cells) refl (λ more e2. spelled_after more (number + 1) rest rows e2) e

  -- ---- and back

  other_at : (id : List ℕ) (front : List SetRow) (row : SetRow) (more : List SetRow) → AllByRecursion (λ y. bytes_eq id y ≡ false) (map (λ (r : SetRow). r.row.id) (front ++ row ∷ more)) → bytes_eq id row.row.id ≡ false
  other_at id [] row more h = h.0
  other_at id (r ∷ front) row more h = other_at id front row more h.1

  both_false : (a b : Bool) → a ≡ false → b ≡ false → cond a true b ≡ false
  both_false true b e f = cc e
  both_false false b e f = f

  new_at : (front : List SetRow) (row : SetRow) (more : List SetRow) → IsDistinct bytes_eq (map (λ (r : SetRow). r.row.id) (front ++ row ∷ more)) → has_id row.row.id front ≡ false
  unfolding IsDistinct
  new_at [] row more h = refl
  new_at (r ∷ front) row more h = rw (other_at r.row.id front row more h.0) (new_at front row more h.1)

  pub after_spelled : (front : List SetRow) (number : ℕ) (left : List (List (List ℕ))) (more : List SetRow) → AllZip Spells left more → IsDistinct bytes_eq (map (λ (r : SetRow). r.row.id) (front ++ more))
      → rows_after kind mode header front number left ≡ Ok (front ++ more)
  unfolding rows_after
  after_spelled front number [] [] z d = ap (λ (rows : List SetRow). Ok rows) (sym (append-nil front))
  after_spelled front number [] (row ∷ more) z d = absurd z
  after_spelled front number (cells ∷ rest) [] z d = absurd z
  after_spelled front number (cells ∷ rest) (row ∷ more) z d =
      let same = append_assoc front (row ∷ []) more in
      rw (z.0, new_at front row more d)
      (after_spelled (front ++ row ∷ []) (number + 1) rest more z.1 (subst (λ (rows : List SetRow). IsDistinct bytes_eq (map (λ (r : SetRow). r.row.id) rows)) (sym same) d) ∙ ap (λ (rows : List SetRow). Ok rows) same)

-- ---- files

below : (kind : Kind) (mode : Mode) (cells : List (List ℕ)) (rest : List (List (List ℕ))) (rows : List SetRow) (read : Result Header SetFault) → header_of kind mode cells ≡ read
    → (read >>= (λ h. rows_after kind mode h [] 2 rest)) ≡ Ok rows → IsDistinct bytes_eq (map (λ (r : SetRow). r.row.id) rows) → AreRowsOf kind mode (cells ∷ rest) rows
below kind mode cells rest rows (Err f) is e d = cc e
below kind mode cells rest rows (Ok h) is e d =
    let behind = spelled_after kind mode h [] 2 rest rows e in
    record { header = h; good = is; spelled = subst (AllZip (λ cells row. row_at kind mode h cells ≡ Ok row) rest) (sym behind.1) behind.2; differ = d }

bare : (kind : Kind) (mode : Mode) (rows : List SetRow) (read : Result Header SetFault) → header_of kind mode [] ≡ read → (read >>= (λ h. Ok [])) ≡ Ok rows → IsDistinct bytes_eq (map (λ (r : SetRow). r.row.id) rows)
    → AreRowsOf kind mode [] rows
bare kind mode rows (Err f) is e d = cc e
bare kind mode rows (Ok h) is e d =
    let none : [] ≡ rows = cc e in record { header = h; good = is; spelled = subst (AllZip (λ cells row. row_at kind mode h cells ≡ Ok row) []) none tt; differ = d }

plain_records : (kind : Kind) (mode : Mode) (records : List (List (List ℕ))) (rows : List SetRow) → rows_of kind mode records ≡ Ok rows → AreRowsOf kind mode records rows
unfolding rows_of
plain_records kind mode [] rows e = bare kind mode rows (header_of kind mode []) refl e (rows_of_kind kind mode [] rows e).differ
plain_records kind mode (cells ∷ rest) rows e = below kind mode cells rest rows (header_of kind mode cells) refl e (rows_of_kind kind mode (cells ∷ rest) rows e).differ

records_plain : (kind : Kind) (mode : Mode) (records : List (List (List ℕ))) (rows : List SetRow) → AreRowsOf kind mode records rows → rows_of kind mode records ≡ Ok rows
unfolding rows_of
records_plain kind mode [] [] h = rw h.good refl
records_plain kind mode [] (row ∷ rows) h = absurd h.spelled
records_plain kind mode (cells ∷ rest) rows h = rw h.good (after_spelled kind mode h.header [] 2 rest rows h.spelled h.differ)

plain_text : (kind : Kind) (mode : Mode) (bytes : List ℕ) (rows : List SetRow) (long text : Bool) → nat_lt largest (length bytes) ≡ long → is_utf8 bytes ≡ text
    → (if long then Err (TooLarge (RowsOf kind)) else if not text then Err (NotUtf8 (RowsOf kind)) else rows_of kind mode (records default_config (strip_bom bytes))) ≡ Ok rows → AreRowsIn kind mode bytes rows
plain_text kind mode bytes rows true text l t e = cc e
plain_text kind mode bytes rows false false l t e = cc e
plain_text kind mode bytes rows false true l t e = record { size = grind (arith, nat_tests); text = t; spelled = plain_records kind mode (records default_config (strip_bom bytes)) rows e }

pub plain_file : (kind : Kind) (mode : Mode) (bytes : List ℕ) (rows : List SetRow) → file_of kind mode bytes ≡ Ok rows → AreRowsIn kind mode bytes rows
unfolding file_of
plain_file kind mode bytes rows e = plain_text kind mode bytes rows (nat_lt largest (length bytes)) (is_utf8 bytes) refl refl e

pub file_plain : (kind : Kind) (mode : Mode) (bytes : List ℕ) (rows : List SetRow) → AreRowsIn kind mode bytes rows → file_of kind mode bytes ≡ Ok rows
unfolding file_of
file_plain kind mode bytes rows h = rw (not_too_large bytes h.size, h.text) (records_plain kind mode (records default_config (strip_bom bytes)) rows h.spelled)

pub given_plain : (kind : Kind) (mode : Mode) (bytes : List ℕ) (r : Result (Vec SetRow Global) (Refusal SetFault)) → Gives (λ v. v.items) r (file_of kind mode bytes) → IfOk r (λ v. AreRowsIn kind mode bytes v.items)
given_plain kind mode bytes (Ok v) g = plain_file kind mode bytes v.items g
given_plain kind mode bytes (Err e) g = tt

pub plain_given : (kind : Kind) (mode : Mode) (bytes : List ℕ) (rows : List SetRow) (r : Result (Vec SetRow Global) (Refusal SetFault)) → Gives (λ v. v.items) r (file_of kind mode bytes) → AreRowsIn kind mode bytes rows
    → Gives (λ v. v.items) r (Ok rows)
plain_given kind mode bytes rows r g h = subst (λ m. Gives (λ v. v.items) r m) (file_plain kind mode bytes rows h) g
