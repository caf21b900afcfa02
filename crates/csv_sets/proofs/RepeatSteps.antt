-- The rows of a file, record by record, and the first whose id repeats.
use Rattle.std.proofs.Common.{◌≡◌, ◌<◌, ◌+◌, ℕ, Bool, true, false, List, [], ◌∷◌, ◌++◌, append_assoc, append-nil, cond}
use Rattle.std.proofs.Common.{drop, get_or, length, take, Option, Some, None, Result, Ok, Err, HashSet, bytes_eq}
use Rattle.std.proofs.Common.{nat_eq, refl, sym, ap, subst, ◌∙◌, arith}
use Rattle.std.proofs.lemmas.List.{length-take-le, length_push, take_more}
use Rattle.std.proofs.lemmas.List.Folds.{list_any-append}
use Rattle.std.specs.Borrow.{Bor}
use Rattle.std.specs.Cmp.Lexicographic.{pointwise}
use Rattle.std.specs.HashSet as bag
use Rattle.std.specs.Prelude.{◌||◌, if◌then◌else◌}
use Rattle.roster_base.proofs.ListSteps.{next_item}
use Rattle.roster_base.specs.Reading.{Fails}
use Rattle.roster_base.specs.declared.refusal.Refusal.{Refusal}
use Rattle.roster_base.specs.declared.refusal.Refusal.TheVariants as refusal
use Rattle.roster_types.specs.declared.set_row.SetRow.{SetRow}
use Rattle.roster_values.specs.declared.kind.Kind.{Kind}
use Rattle.roster_values.specs.declared.mode.Mode.{Mode}
use Rattle.csv_sets.specs.declared.fault.SetFault.{SetFault}
use Rattle.csv_sets.specs.declared.fault.SetFault.TheVariants.{RepeatedId}
use Rattle.csv_sets.specs.declared.fault.SetFile.TheVariants.{RowsOf}
use Rattle.csv_sets.specs.Files.{Finds, first_repeat, has_id, in_record, repeat_first, rows_after}
use Rattle.csv_sets.specs.Headers.{Header}
use Rattle.csv_sets.specs.Left.{AllRowsText}
use Rattle.csv_sets.specs.Rows.{row_at}
use Rattle.csv_sets.proofs.RecordSteps.{text_behind}

-- ---- the first repeat

-- what is found with one more row: its id may be the first that repeats
last_told : (kind : Kind) (found : Result (List SetRow) SetFault) (place number : ℕ) (there : Bool) → number ≡ place + 2
    → (if there then Err (RepeatedId (RowsOf kind) number) else found) ≡ repeat_first kind (if there then Some place else None) found
last_told kind found place number true n = ap (λ (k : ℕ). Err (RepeatedId (RowsOf kind) k)) n
last_told kind found place number false n = refl

same_told : (kind : Kind) (place : ℕ) (there : Bool) (one other : Option ℕ) (found told : Result (List SetRow) SetFault) → repeat_first kind one found ≡ repeat_first kind other told
    → repeat_first kind (if there then Some place else one) found ≡ repeat_first kind (if there then Some place else other) told
same_told kind place true one other found told e = refl
same_told kind place false one other found told e = e

repeat_on : (kind : Kind) (number : ℕ) (found : Result (List SetRow) SetFault) (front rows : List SetRow) (row : SetRow) (all : List SetRow) → front ++ rows ≡ all → number ≡ length all + 2
    → repeat_first kind (first_repeat front rows) (if has_id row.row.id all then Err (RepeatedId (RowsOf kind) number) else found) ≡ repeat_first kind (first_repeat front (rows ++ row ∷ [])) found
repeat_on kind number found front [] row all e n =
    let same : front ≡ all = sym (append-nil front) ∙ e in
    subst (λ (xs : List SetRow). (if has_id row.row.id xs then Err (RepeatedId (RowsOf kind) number) else found) ≡ repeat_first kind (if has_id row.row.id front then Some (length front) else None) found) same
    (last_told kind found (length front) number (has_id row.row.id front) (n ∙ ap (λ (xs : List SetRow). length xs + 2) (sym same)))
repeat_on kind number found front (x ∷ rows) row all e n =
    same_told kind (length front) (has_id x.row.id front) (first_repeat (front ++ x ∷ []) rows) (first_repeat (front ++ x ∷ []) (rows ++ row ∷ [])) _ found
    (repeat_on kind number found (front ++ x ∷ []) rows row all (append_assoc front (x ∷ []) rows ∙ e) n)

-- ---- record by record

-- how far the reading has come: the rows so far and the records that are left lead to the whole answer
pub record Leads (kind : Kind) (mode : Mode) (header : Header) (rows : List SetRow) (number : ℕ) (left whole : List (List (List ℕ))) : Type 0 where
  pub same : rows_after kind mode header [] 2 whole ≡ repeat_first kind (first_repeat [] rows) (rows_after kind mode header rows number left)
  pub text : AllRowsText left
  pub count : number ≡ length rows + 2
  pub few : length rows + length left ≡ length whole

pub leads_start : (kind : Kind) (mode : Mode) (header : Header) (whole : List (List (List ℕ))) → AllRowsText whole → Leads kind mode header [] 2 whole whole
leads_start kind mode header whole text = record { same = refl; text = text; count = refl; few = omega arith }

pub leads_end : {kind : Kind} {mode : Mode} {header : Header} {rows : List SetRow} {number : ℕ} {left whole : List (List (List ℕ))} → Leads kind mode header rows number left whole → left ≡ []
    → rows_after kind mode header [] 2 whole ≡ repeat_first kind (first_repeat [] rows) (Ok rows)
unfolding rows_after
leads_end l e = rw e at l.same

pub leads_fail : {kind : Kind} {mode : Mode} {header : Header} {rows : List SetRow} {number : ℕ} {left whole : List (List (List ℕ))} (cells : List (List ℕ)) (new : List (List (List ℕ))) (e : Refusal SetFault)
    → Leads kind mode header rows number left whole → left ≡ cells ∷ new → Fails e (in_record kind number (row_at kind mode header cells)) → Finds kind rows (Err e) (rows_after kind mode header [] 2 whole)
unfolding rows_after
leads_fail cells new refusal.NoMemory l d h = tt
leads_fail cells new (refusal.Fault f) l d h = rw (d, h) at l.same

pub leads_on : {kind : Kind} {mode : Mode} {header : Header} {rows : List SetRow} {number : ℕ} {left whole : List (List (List ℕ))} (cells : List (List ℕ)) (new : List (List (List ℕ))) (row : SetRow)
    → Leads kind mode header rows number left whole → left ≡ cells ∷ new → in_record kind number (row_at kind mode header cells) ≡ Ok row → Leads kind mode header (rows ++ row ∷ []) (number + 1) new whole
unfolding rows_after
leads_on {kind} {mode} {header} {rows} {number} {left} cells new row l d h = record {
  same = (rw (d, h) at l.same) ∙ repeat_on kind number (rows_after kind mode header (rows ++ row ∷ []) (number + 1) new) [] rows row rows refl l.count;
  text = text_behind left cells new d l.text;
  count = omega (arith, l.count, length_push rows row);
  few = omega (arith, ap length d, l.few, length_push rows row);
}

-- what is told behind the rows, once it is known of them whether an id repeats
pub no_repeat : (kind : Kind) (place : Option ℕ) (rows : List SetRow) → place ≡ None → repeat_first kind place (Ok rows) ≡ Ok rows
no_repeat kind place rows e = rw e refl

-- ---- by a set that lends the ids

-- a set lends the ids of these rows and no others
abbrev pub LendsIds : {S : Type 0} → HashSet (Bor (List ℕ)) S → List SetRow → Type 0
LendsIds ids rows = (q : List ℕ) → bag.contains_by (λ k. bytes_eq q k.now) ids ≡ has_id q rows

-- how far the search has come
pub record Seeks {S : Type 0} (ids : HashSet (Bor (List ℕ)) S) (rows : List SetRow) (place : ℕ) : Type 0 where
  pub lent : LendsIds ids (take place rows)
  pub rest : first_repeat [] rows ≡ first_repeat (take place rows) (drop place rows)

either : (a b : Bool) → cond b true a ≡ (a || (b || false))
either true true = refl
either true false = refl
either false true = refl
either false false = refl

-- the ids of the rows, with one more
ids_after : {S : Type 0} (ids new : HashSet (Bor (List ℕ)) S) (key : Bor (List ℕ)) (rows : List SetRow) (row : SetRow) → LendsIds ids rows → key.now ≡ row.row.id
    → bag.Updates (λ x y. pointwise nat_eq x.now y.now) ids new key true → LendsIds new (rows ++ row ∷ [])
ids_after ids new key rows row h same updates q =
    updates.0 (record { ref_ptr = (0, 0); now = q }) ∙ rw (h q, same, list_any-append (λ (r : SetRow). bytes_eq r.row.id q) rows (row ∷ [])) (either (has_id q rows) (bytes_eq row.row.id q))

pub seeks_start : {S : Type 0} (ids : HashSet (Bor (List ℕ)) S) (rows : List SetRow) → bag.IsEmpty ids → Seeks ids rows 0
seeks_start ids rows e = record { lent = λ q. rw e refl; rest = refl }

pub seeks_on : {S : Type 0} {ids : HashSet (Bor (List ℕ)) S} {rows : List SetRow} {place : ℕ} (new : HashSet (Bor (List ℕ)) S) (key : Bor (List ℕ)) (row : SetRow) → Seeks ids rows place → place < length rows
    → row ≡ get_or rows place row → key.now ≡ row.row.id → bag.Updates (λ x y. pointwise nat_eq x.now y.now) ids new key true → has_id row.row.id (take place rows) ≡ false → Seeks new rows (place + 1)
seeks_on {S} {ids} {rows} {place} new key row s within is same updates e =
    let front : take (place + 1) rows ≡ take place rows ++ row ∷ [] = take_more rows place row within ∙ ap (λ (r : SetRow). take place rows ++ r ∷ []) (sym is) in
    record {
      lent = rw front (ids_after ids new key (take place rows) row s.lent same updates);
      rest = rw front (rw (next_item rows place row row within is, e) at s.rest);
    }

pub seeks_found : {S : Type 0} {ids : HashSet (Bor (List ℕ)) S} {rows : List SetRow} {place : ℕ} (row : SetRow) → Seeks ids rows place → place < length rows
    → row ≡ get_or rows place row → has_id row.row.id (take place rows) ≡ true → Some place ≡ first_repeat [] rows
seeks_found {S} {ids} {rows} {place} row s within is e =
    let here : length (take place rows) ≡ place = length-take-le place rows (omega (arith, within)) in
    sym ((rw (next_item rows place row row within is, e) at s.rest) ∙ ap (λ (k : ℕ). Some k) here)
