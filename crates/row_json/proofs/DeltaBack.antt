-- What differs is read back from its text.
use Rattle.std.proofs.Common.{◌≡◌, ℕ, true, List, None, Ok, map, refl, arith}
use Rattle.std.proofs.lemmas.Bool.{and_parts}
use Rattle.std.proofs.lemmas.List.{map-id}
use Rattle.std.specs.List.{All, list_all}
use Rattle.std.specs.Str.{is_utf8}
use Rattle.serde_json.specs.Data.{no_members, put, string}
use Rattle.serde_json.specs.View.{items_of}
use Rattle.serde_json.proofs.Views.{get_member-put, get_member-put_other}
use Rattle.roster_texts.specs.Texts.{is_id}
use Rattle.roster_types.proofs.Fitting.{table-common}
use Rattle.roster_types.specs.Records.{Record}
use Rattle.roster_values.specs.Kinds.{plural_of}
use Rattle.roster_values.specs.declared.kind.Kind.{Kind}
use Rattle.row_json.specs.Deltas.{delta_data, delta_text, gone_data, gone_in, gone_item, gone_of, gone_word, rows_data}
use Rattle.row_json.specs.Json.{row_data}
use Rattle.row_json.specs.Reading.{IsHeld, collection_in, data_of, rows_of}
use Rattle.row_json.proofs.CellBack.{each-read, id-trimmed}
use Rattle.row_json.proofs.DeltaTexts.{apart as kinds_apart}
use Rattle.row_json.proofs.ReadBack.{Kept, array-kept, array-of, deeper, none-kept, object-kept, put-kept, read-kept}
use Rattle.row_json.proofs.ReadBack.{string-kept}
use Rattle.row_json.proofs.RowBack.{all-objects, apart, rows-back, rows-kept}

delta-kept : (kind : Kind) (rows : List Record) (gone : List (List ℕ)) → All IsHeld rows → Kept 5 (delta_data kind rows gone)
unfolding delta_data
delta-kept kind rows gone held =
    let puts = put (plural_of kind) (rows_data rows) no_members in
    object-kept 4 (put gone_word (gone_data gone) puts) (put-kept 4 gone_word (gone_data gone) puts (array-kept 3 string (string-kept 3) gone)
    (put-kept 4 (plural_of kind) (rows_data rows) no_members (array-of 3 (items_of (map (row_data None) rows)) (rows-kept rows held)) (none-kept 4)))

-- the rows that are put
pub puts-back : (kind : Kind) (rows : List Record) (gone : List (List ℕ)) (text : List ℕ) → All IsHeld rows → All (λ (r : Record). r.kind ≡ kind) rows → text ≡ delta_text kind rows gone → is_utf8 text ≡ true → rows_of kind text ≡ Ok rows
unfolding rows_of data_of collection_in delta_text delta_data
puts-back kind rows gone text held kinds is utf8 =
    let puts = put (plural_of kind) (rows_data rows) no_members in
    rw (
      utf8,
      is,
      read-kept _ (deeper 5 127 _ (omega arith) (delta-kept kind rows gone held)),
      get_member-put_other (plural_of kind) gone_word (gone_data gone) puts (apart gone_word (plural_of kind) (kinds_apart kind)),
      get_member-put (plural_of kind) (rows_data rows) no_members,
      all-objects rows,
    ) (rows-back kind rows held kinds)

-- the id of a row that is held is a good one
pub held-id : (r : Record) → IsHeld r → is_id r.id ≡ true
held-id r h = (and_parts _ _ (rw (table-common r.kind) at h.row.fitting.values)).0

item-back : (id : List ℕ) → is_id id ≡ true → gone_item (string id) ≡ Ok id
unfolding gone_item
item-back id good = rw (id-trimmed id good, good) refl

-- the ids that are gone
pub gone-back : (kind : Kind) (rows : List Record) (gone : List (List ℕ)) (text : List ℕ) → All IsHeld rows → list_all is_id gone ≡ true → text ≡ delta_text kind rows gone → is_utf8 text ≡ true → gone_of text ≡ Ok gone
unfolding gone_of gone_in data_of delta_text delta_data
gone-back kind rows gone text held good is utf8 =
    rw (
      utf8,
      is,
      read-kept _ (deeper 5 127 _ (omega arith) (delta-kept kind rows gone held)),
      get_member-put gone_word (gone_data gone) (put (plural_of kind) (rows_data rows) no_members),
      each-read gone_item string (λ t. t) is_id item-back gone good,
      map-id gone,
    ) refl
