-- The places of a header's fields, one by one.
use Rattle.std.proofs.Common.{◌≡◌, ◌≤◌, ◌+◌, ℕ, List, [], ◌∷◌, ◌++◌, Bool, true, false, Option, Some, None, Ok, Err}
use Rattle.std.proofs.Common.{drop, length, map, not, is_some, refl, sym, ap, ◌∙◌, append_assoc}
use Rattle.std.proofs.lemmas.List.{append-nil, drop_all}
use Rattle.std.specs.Prelude.{◌&&◌}
use Rattle.roster_values.specs.declared.kind.Kind.{Kind}
use Rattle.roster_values.specs.declared.mode.Mode.{Mode}
use Rattle.roster_values.specs.Table.{Info, info_in, table}
use Rattle.csv_sets.specs.declared.fault.ColumnFault.TheVariants.{Missing}
use Rattle.csv_sets.specs.Columns.{places_of}
use Rattle.csv_sets.specs.Headers.{has_column, in_file, place_of, required_checked}
use Rattle.csv_sets.proofs.ColumnLaws.{has_column-place}

-- how far the look-up of the fields' columns has come
pub record Places (kind : Kind) (mode : Mode) (columns : List (List ℕ)) (found : List (Option ℕ)) (field : ℕ) : Type 0 where
  pub same : required_checked kind mode columns field (drop field (table kind)) ≡ required_checked kind mode columns 0 (table kind)
  pub all : found ++ map (λ i. place_of columns i.column) (drop field (table kind)) ≡ map (λ i. place_of columns i.column) (table kind)

pub places_start : (kind : Kind) (mode : Mode) (columns : List (List ℕ)) → Places kind mode columns [] 0
places_start kind mode columns = record { same = refl; all = refl }

pub places_missing : {kind : Kind} {mode : Mode} {columns : List (List ℕ)} {found : List (Option ℕ)} {field : ℕ} (i : Info) (rest : List Info) → Places kind mode columns found field → drop field (table kind) ≡ i ∷ rest
    → place_of columns i.column ≡ None → (info_in mode field i).required ≡ true → places_of kind mode columns ≡ Err (in_file kind i.column Missing)
unfolding required_checked
places_missing {kind} {mode} {columns} i rest k d none asked = rw (sym k.same, d, asked, has_column-place columns i.column, none) refl

pub none_told : (place : Option ℕ) (none : Bool) → is_some place ≡ not none → none ≡ true → place ≡ None
none_told None none e h = refl
none_told (Some p) true e h = cc e
none_told (Some p) false e h = cc h

pub some_told : (place : Option ℕ) (none : Bool) → is_some place ≡ not none → none ≡ false → is_some place ≡ true
some_told place none e h = e ∙ rw h refl

passed : (columns : List (List ℕ)) (name : List ℕ) (place : Option ℕ) (asked : Bool) → place_of columns name ≡ place → (asked ≡ true → is_some place ≡ true) → (asked && not (has_column columns name)) ≡ false
passed columns name place true e h = rw (has_column-place columns name, e, h refl) refl
passed columns name place false e h = refl

pub places_on : {kind : Kind} {mode : Mode} {columns : List (List ℕ)} {found : List (Option ℕ)} {field : ℕ} (i : Info) (place : Option ℕ) → Places kind mode columns found field → drop field (table kind) ≡ i ∷ drop (field + 1) (table kind)
    → place ≡ place_of columns i.column → ((info_in mode field i).required ≡ true → is_some place ≡ true) → Places kind mode columns (found ++ place ∷ []) (field + 1)
unfolding required_checked
places_on {kind} {mode} {columns} {found} {field} i place k d is h = record {
  same = rw (d, passed columns i.column place (info_in mode field i).required (sym is) h) at k.same;
  all = rw append_assoc (rw (d, ← is) at k.all);
}

pub places_end : {kind : Kind} {mode : Mode} {columns : List (List ℕ)} {found : List (Option ℕ)} {field : ℕ} → Places kind mode columns found field → length (table kind) ≤ field → places_of kind mode columns ≡ Ok found
unfolding required_checked
places_end {found = found} k past =
    let d = drop_all _ _ past in
    rw (sym k.same, d) (ap (λ xs. Ok xs) (sym k.all ∙ rw d (append-nil found)))
