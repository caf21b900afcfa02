-- A header's columns, one by one.
use Rattle.std.proofs.Common.{◌≡◌, ◌≤◌, ◌<◌, ◌+◌, ℕ, zero, suc, List, [], ◌∷◌, ◌++◌, Bool, true, false, Option, Some}
use Rattle.std.proofs.Common.{None, Ok, Err, String, BTreeSet, Global, Bor, string_bytes, string_cmp, bytes_eq, cond}
use Rattle.std.proofs.Common.{drop, length, not, is_some, option_map, refl, sym, ap, ◌∙◌, arith, append_assoc, add-one}
use Rattle.std.proofs.lemmas.List.{append-nil, drop_all}
use Rattle.std.proofs.lemmas.Map.Text.{btree_set_updates_text}
use Rattle.std.proofs.lemmas.Slice.Eq.{bytes_eq-Decides}
use Rattle.std.specs.BTreeSet as sorted
use Rattle.std.specs.BTreeSet.{contains_text}
use Rattle.std.specs.Cmp.Lexicographic.{slice_cmp}
use Rattle.std.specs.Ordering.{nat_cmp}
use Rattle.std.specs.Prelude.{◌&&◌, ◌||◌, if◌then◌else◌}
use Rattle.csv.specs.Records.{field_at}
use Rattle.roster_base.specs.Reading.{Fails}
use Rattle.roster_base.specs.declared.refusal.Refusal.{Refusal}
use Rattle.roster_base.specs.declared.refusal.Refusal.TheVariants as refusal
use Rattle.roster_texts.specs.Texts.{is_id}
use Rattle.roster_texts.specs.Trim.{trimmed}
use Rattle.roster_values.specs.declared.kind.Kind.{Kind}
use Rattle.csv_sets.specs.declared.fault.SetFault.{SetFault}
use Rattle.csv_sets.specs.declared.header.MetadataColumn.{MetadataColumn}
use Rattle.csv_sets.specs.Cells.{cell_at}
use Rattle.csv_sets.specs.Columns.{Notes, metadata_column, metadata_of, noted}
use Rattle.csv_sets.specs.Headers.{columns_checked, columns_of, has_column, is_metadata, is_read, key_in, metadata_from}

drop-columns : (fields : List (List ℕ)) (place : ℕ) → place < length fields → drop place (columns_of fields) ≡ trimmed (cell_at fields (Some place)) ∷ drop (place + 1) (columns_of fields)
unfolding field_at
drop-columns [] place h = absurd (omega arith)
drop-columns (f ∷ fs) zero h = refl
drop-columns (f ∷ fs) (suc place) h = rw add-one (rw add-one at (drop-columns fs place (omega arith)))

-- the column at a place, and those behind it
pub next_column : (fields : List (List ℕ)) (place : ℕ) (c : List ℕ) → c ≡ trimmed (cell_at fields (Some place)) → place < length fields → drop place (columns_of fields) ≡ c ∷ drop (place + 1) (columns_of fields)
next_column fields place c e h = rw e (drop-columns fields place h)

-- a name that is no key of metadata
pub known_or : (known : Bool) (o : Option (Bor (List ℕ))) (b : Bool) (k : List ℕ) → known ≡ false → option_map (λ (k : Bor (List ℕ)). k.now) o ≡ (if b then Some k else None) → is_some o ≡ (known || b)
known_or true o b k e h = cc e
known_or false None true k e h = cc h
known_or false None false k e h = refl
known_or false (Some x) true k e h = refl
known_or false (Some x) false k e h = cc h

-- a column that is not read is none that is
other_column : (kind : Kind) (c q : List ℕ) (same : Bool) → bytes_eq c q ≡ same → is_read kind c ≡ false → is_read kind q ≡ true → bytes_eq c q ≡ false
other_column kind c q true e unread reads = let alike : c ≡ q = (bytes_eq-Decides c q).0 e in absurd (cc (sym (ap (is_read kind) alike ∙ reads) ∙ unread))
other_column kind c q false e unread reads = e

pub notes_none : (kind : Kind) (seen : BTreeSet (String Global)) (c : List ℕ) → is_read kind c ≡ false → Notes kind seen seen c
notes_none kind seen c unread q reads = rw (other_column kind c q (bytes_eq c q) refl unread reads) refl

or_cond : (a b : Bool) → cond a true b ≡ (a || b)
or_cond true b = refl
or_cond false b = refl

pub notes_one : (kind : Kind) (old new : BTreeSet (String Global)) (key : String Global) (c : List ℕ) → string_bytes key ≡ c
    → sorted.UpdatesBy string_cmp (λ k. slice_cmp nat_cmp (string_bytes key) (string_bytes k)) old new true → Notes kind old new c
notes_one kind old new key c same updates q reads =
    btree_set_updates_text (string_bytes key) old new true updates q ∙ rw same (or_cond (bytes_eq c q) (contains_text old q))

-- how far the reading of a header has come
pub record Checks (kind : Kind) (columns : List (List ℕ)) (seen : BTreeSet (String Global)) (found : List MetadataColumn) (place : ℕ) : Type 0 where
  pub before : List (List ℕ)
  pub same : columns_checked kind before (drop place columns) ≡ columns_checked kind [] columns
  pub held : (q : List ℕ) → is_read kind q ≡ true → contains_text seen q ≡ has_column before q
  pub all : found ++ metadata_from place (drop place columns) ≡ metadata_from 0 columns

pub checks_start : (kind : Kind) (columns : List (List ℕ)) (seen : BTreeSet (String Global)) → ((q : List ℕ) → contains_text seen q ≡ false) → Checks kind columns seen [] 0
checks_start kind columns seen none = record { before = []; same = refl; held = λ q reads. none q; all = refl }

both_of : {F : Type 0} (a b : Bool) (g f : F) → (if a && b then Err g else Ok true) ≡ Err f → (a ≡ true) × (b ≡ true) × (g ≡ f)
both_of true true g f e = (refl, refl, cc e)
both_of true false g f e = cc e
both_of false b g f e = cc e

not_both : {F : Type 0} (a b : Bool) (g : F) → (if a && b then Err g else Ok true) ≡ Ok true → (a && b) ≡ false
not_both true true g e = cc e
not_both true false g e = refl
not_both false b g e = refl

-- whether a column that is read stands before, as the set says
stood : (kind : Kind) (c : List ℕ) (read : Bool) (x y : Bool) → is_read kind c ≡ read → (is_read kind c ≡ true → x ≡ y) → (read && x) ≡ (read && y)
stood kind c true x y e h = h e
stood kind c false x y e h = refl

pub fails_noted : {kind : Kind} {columns : List (List ℕ)} {seen : BTreeSet (String Global)} {found : List MetadataColumn} {place : ℕ} (c : List ℕ) (rest : List (List ℕ)) (e : Refusal SetFault)
    → Checks kind columns seen found place → drop place columns ≡ c ∷ rest → Fails e (noted kind (contains_text seen c) c) → Fails e (metadata_of kind columns)
unfolding noted columns_checked
fails_noted c rest refusal.NoMemory k d h = tt
fails_noted {kind} c rest (refusal.Fault f) k d h =
    let parts = both_of (is_read kind c) (contains_text _ c) _ f h in
    let stands : has_column k.before c ≡ true = sym (k.held c parts.0) ∙ parts.1 in
    rw (sym k.same, d, parts.0, stands, parts.2) refl

-- a column that isn't noted twice passes on to the question of its key
passes : (kind : Kind) (before : List (List ℕ)) (seen : BTreeSet (String Global)) (c : List ℕ) → ((q : List ℕ) → is_read kind q ≡ true → contains_text seen q ≡ has_column before q)
    → noted kind (contains_text seen c) c ≡ Ok true → (is_read kind c && has_column before c) ≡ false
unfolding noted
passes kind before seen c held once =
    sym (stood kind c (is_read kind c) (contains_text seen c) (has_column before c) refl (held c)) ∙ not_both (is_read kind c) (contains_text seen c) _ once

-- what the name of a metadata column says
record IsMetadataColumn (place : ℕ) (c : List ℕ) (column : MetadataColumn) : Type 0 where
  pub metadata : is_metadata c ≡ true
  pub good : is_id (key_in c) ≡ true
  pub is : record { key = key_in c; place = place } ≡ column

none_of : {F : Type 0} (a b : Bool) (m : MetadataColumn) (f : F) → (if not a then Ok None else if b then Ok (Some m) else Err f) ≡ Ok None → a ≡ false
none_of true true m f e = cc e
none_of true false m f e = cc e
none_of false b m f e = refl

some_of : (place : ℕ) (c : List ℕ) (column : MetadataColumn) (f : SetFault) (a b : Bool) → is_metadata c ≡ a → is_id (key_in c) ≡ b
    → (if not a then Ok None else if b then Ok (Some (record { key = key_in c; place = place })) else Err f) ≡ Ok (Some column) → IsMetadataColumn place c column
some_of place c column f true true x y e = record { metadata = x; good = y; is = cc e }
some_of place c column f true false x y e = cc e
some_of place c column f false b x y e = cc e

bad_of : {F : Type 0} (a b : Bool) (m : MetadataColumn) (f g : F) → (if not a then Ok None else if b then Ok (Some m) else Err f) ≡ Err g → (a ≡ true) × (b ≡ false) × (f ≡ g)
bad_of true true m f g e = cc e
bad_of true false m f g e = (refl, refl, cc e)
bad_of false b m f g e = cc e

pub fails_metadata : {kind : Kind} {columns : List (List ℕ)} {seen : BTreeSet (String Global)} {found : List MetadataColumn} {place : ℕ} (c : List ℕ) (rest : List (List ℕ)) (e : Refusal SetFault)
    → Checks kind columns seen found place → drop place columns ≡ c ∷ rest → noted kind (contains_text seen c) c ≡ Ok true → Fails e (metadata_column kind place c) → Fails e (metadata_of kind columns)
unfolding metadata_column columns_checked
fails_metadata c rest refusal.NoMemory k d once h = tt
fails_metadata {kind} {seen = seen} c rest (refusal.Fault f) k d once h =
    let parts = bad_of (is_metadata c) (is_id (key_in c)) _ _ f h in
    rw (sym k.same, d, passes kind k.before seen c k.held once, parts.0, parts.1, parts.2) refl

held_on : (kind : Kind) (before : List (List ℕ)) (seen new : BTreeSet (String Global)) (c : List ℕ) → ((q : List ℕ) → is_read kind q ≡ true → contains_text seen q ≡ has_column before q) → Notes kind seen new c
    → (q : List ℕ) → is_read kind q ≡ true → contains_text new q ≡ has_column (c ∷ before) q
held_on kind before seen new c held notes q reads = notes q reads ∙ rw (held q reads) refl

pub checks_none : {kind : Kind} {columns : List (List ℕ)} {seen : BTreeSet (String Global)} {found : List MetadataColumn} {place : ℕ} (new : BTreeSet (String Global)) (c : List ℕ)
    → Checks kind columns seen found place → drop place columns ≡ c ∷ drop (place + 1) columns → noted kind (contains_text seen c) c ≡ Ok true → Notes kind seen new c
    → metadata_column kind place c ≡ Ok None → Checks kind columns new found (place + 1)
unfolding metadata_column columns_checked metadata_from
checks_none {kind} {seen = seen} new c k d once notes h =
    let plain : is_metadata c ≡ false = none_of (is_metadata c) (is_id (key_in c)) _ _ h in
    record {
      before = c ∷ k.before;
      same = rw (d, passes kind k.before seen c k.held once, plain) at k.same;
      held = held_on kind k.before seen new c k.held notes;
      all = rw (d, plain) at k.all;
    }

pub checks_some : {kind : Kind} {columns : List (List ℕ)} {seen : BTreeSet (String Global)} {found : List MetadataColumn} {place : ℕ} (new : BTreeSet (String Global)) (c : List ℕ) (column : MetadataColumn)
    → Checks kind columns seen found place → drop place columns ≡ c ∷ drop (place + 1) columns → noted kind (contains_text seen c) c ≡ Ok true → Notes kind seen new c
    → metadata_column kind place c ≡ Ok (Some column) → Checks kind columns new (found ++ column ∷ []) (place + 1)
unfolding metadata_column columns_checked metadata_from
checks_some {kind} {seen = seen} {found} {place} new c column k d once notes h =
    let m = some_of place c column _ (is_metadata c) (is_id (key_in c)) refl refl h in
    record {
      before = c ∷ k.before;
      same = rw (d, passes kind k.before seen c k.held once, m.metadata, m.good) at k.same;
      held = held_on kind k.before seen new c k.held notes;
      all = rw append_assoc (rw (d, m.metadata, m.is) at k.all);
    }

pub checks_end : {kind : Kind} {columns : List (List ℕ)} {seen : BTreeSet (String Global)} {found : List MetadataColumn} {place : ℕ} → Checks kind columns seen found place → length columns ≤ place
    → metadata_of kind columns ≡ Ok found
unfolding columns_checked metadata_from
checks_end {found = found} k past =
    let d = drop_all _ _ past in
    rw (sym k.same, d) (ap (λ xs. Ok xs) (sym k.all ∙ rw d (append-nil found)))
