-- The metadata of a record, column by column.
use Rattle.std.proofs.Common.{◌≡◌, ◌≤◌, ◌+◌, ◌==◌, ℕ, List, [], ◌∷◌, ◌++◌, true, false, Some, drop, length, map, refl}
use Rattle.std.proofs.Common.{sym, ◌∙◌, append_assoc}
use Rattle.std.proofs.lemmas.Bool.{and_from}
use Rattle.std.proofs.lemmas.List.{append-nil, drop_all, map-append}
use Rattle.roster_base.proofs.Rising.{Rise, rise_front, rise_without}
use Rattle.roster_base.specs.Order.{RiseBy}
use Rattle.roster_texts.specs.Trim.{trimmed}
use Rattle.roster_types.specs.declared.metadata.Entry.{Entry}
use Rattle.roster_types.specs.Records.{key_of}
use Rattle.roster_values.proofs.TrimLaws.{trimmed_plain}
use Rattle.roster_values.specs.Fit.{is_plain_text}
use Rattle.roster_values.specs.Lists.{is_filled}
use Rattle.csv_sets.specs.declared.header.MetadataColumn.{MetadataColumn}
use Rattle.csv_sets.specs.Cells.{cell_at}
use Rattle.csv_sets.specs.Headers.{metadata_key}
use Rattle.csv_sets.specs.Rows.{metadata_at}

-- how far the metadata of a record is read
pub record Gathers (columns : List MetadataColumn) (cells : List (List ℕ)) (entries : List Entry) (index : ℕ) : Type 0 where
  pub same : entries ++ metadata_at (drop index columns) cells ≡ metadata_at columns cells
  pub order : Rise (map key_of entries ++ map metadata_key (drop index columns))

pub gathers_start : (columns : List MetadataColumn) (cells : List (List ℕ)) → RiseBy metadata_key columns → Gathers columns cells [] 0
gathers_start columns cells h = record { same = refl; order = h }

pub gathers_blank : {columns : List MetadataColumn} {cells : List (List ℕ)} {entries : List Entry} {index : ℕ} (c : MetadataColumn) → Gathers columns cells entries index → drop index columns ≡ c ∷ drop (index + 1) columns
    → (length (trimmed (cell_at cells (Some c.place))) == 0) ≡ true → Gathers columns cells entries (index + 1)
unfolding metadata_at
gathers_blank {columns} {cells} {entries} {index} c g d blank = record {
  same = rw (d, blank) at g.same;
  order = rise_without (map key_of entries) (map metadata_key (drop (index + 1) columns)) c.key (rw d at g.order);
}

-- the keys of the entries with one more, and then of the columns behind it
keys_on : {columns : List MetadataColumn} {cells : List (List ℕ)} {entries : List Entry} {index : ℕ} (c : MetadataColumn) (e : Entry) → Gathers columns cells entries index → drop index columns ≡ c ∷ drop (index + 1) columns
    → e.key ≡ c.key → Rise (map key_of (entries ++ e ∷ []) ++ map metadata_key (drop (index + 1) columns))
keys_on {columns} {cells} {entries} {index} c e g d k = rw (map-append key_of entries (e ∷ []), append_assoc, k) (rw d at g.order)

pub entry_rises : {columns : List MetadataColumn} {cells : List (List ℕ)} {entries : List Entry} {index : ℕ} (c : MetadataColumn) (e : Entry) → Gathers columns cells entries index → drop index columns ≡ c ∷ drop (index + 1) columns
    → e.key ≡ c.key → RiseBy key_of (entries ++ e ∷ [])
entry_rises {columns} {entries = entries} {index} c e g d k = rise_front (map key_of (entries ++ e ∷ [])) (map metadata_key (drop (index + 1) columns)) (keys_on c e g d k)

pub gathers_one : {columns : List MetadataColumn} {cells : List (List ℕ)} {entries : List Entry} {index : ℕ} (c : MetadataColumn) (e : Entry) → Gathers columns cells entries index → drop index columns ≡ c ∷ drop (index + 1) columns
    → e.key ≡ c.key → e.text ≡ trimmed (cell_at cells (Some c.place)) → (length e.text == 0) ≡ false → Gathers columns cells (entries ++ e ∷ []) (index + 1)
unfolding metadata_at
gathers_one {columns} {cells} {entries} {index} c e g d k t filled = record {
  same = rw (append_assoc, k, t) (rw (d, rw t at filled) at g.same);
  order = keys_on c e g d k;
}

pub gathers_end : {columns : List MetadataColumn} {cells : List (List ℕ)} {entries : List Entry} {index : ℕ} → Gathers columns cells entries index → length columns ≤ index → entries ≡ metadata_at columns cells
unfolding metadata_at
gathers_end {entries = entries} g past = sym (append-nil entries) ∙ rw (drop_all _ _ past) at g.same

filled_from : (text : List ℕ) → (length text == 0) ≡ false → is_filled text ≡ true
filled_from text h = rw h refl

-- a trimmed text that isn't empty is plain
pub plain_from : (text cell : List ℕ) → text ≡ trimmed cell → (length text == 0) ≡ false → is_plain_text text ≡ true
plain_from text cell e h =
    let filled : is_filled (trimmed cell) ≡ true = filled_from (trimmed cell) (rw e at h) in
    rw e (and_from _ _ filled (trimmed_plain cell filled))
