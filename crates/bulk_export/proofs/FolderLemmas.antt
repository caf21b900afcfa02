-- A folder with an export of each kind is read as a set.
use Rattle.std.proofs.Common.{◌≡◌, ℕ, List, [], ◌∷◌, map, length, Bool, true, false, Ok, nat_lt, refl}
use Rattle.csv.specs.Machine.{next_record}
use Rattle.csv.specs.Reading.{records_from, strip_bom}
use Rattle.csv.specs.Records.{field_at}
use Rattle.roster_texts.specs.Trim.{trimmed}
use Rattle.std.specs.Str.{chars, is_utf8}
use Rattle.csv_sets.specs.Files.{file_of, largest}
use Rattle.csv_sets.specs.Manifests.{files_said, manifest_below, manifest_of, mode_of, mode_of_word, mode_said}
use Rattle.csv_sets.specs.Manifests.{said_after, said_by, said_with, versions_checked}
use Rattle.csv_sets.specs.Sets.{all_stand, bytes_of, is_listed, listed_in, manifest_at, part_at, parts_at, set_among}
use Rattle.csv_sets.specs.Sets.{set_of}
use Rattle.csv_sets.specs.Written.{dated}
use Rattle.outside_ports.specs.Files.{Stored}
use Rattle.roster_types.specs.Records.{Record}
use Rattle.roster_types.specs.declared.set_row.SetRow.{SetRow}
use Rattle.roster_values.specs.Kinds.{all_kinds}
use Rattle.roster_values.specs.declared.kind.Kind.{Kind}
use Rattle.roster_values.specs.declared.kind.Kind.TheVariants.{Orgs}
use Rattle.roster_values.specs.declared.mode.Mode.{Mode}
use Rattle.roster_values.specs.declared.mode.Mode.TheVariants.{Bulk, Delta}
use Rattle.bulk_export.specs.Exports.{manifest_text}
use Rattle.bulk_export.specs.Folders.{IsExportFolder, listed, part_of, parts_of}

-- the manifest lists the file of each kind
lists : (mode : Mode) → listed_in (manifest_text mode) ≡ Ok (map (listed mode) all_kinds)
unfolding listed_in manifest_text is_utf8 manifest_of strip_bom manifest_below said_after said_by said_with mode_said mode_of_word versions_checked files_said mode_of records_from next_record trimmed field_at chars lib.Utf8.encode
lists Bulk = refl
lists Delta = refl

is_short : (mode : Mode) → nat_lt largest (length (manifest_text mode)) ≡ false
unfolding manifest_text
is_short Bulk = refl
is_short Delta = refl

each_listed : (mode : Mode) (kind : Kind) → is_listed kind (map (listed mode) all_kinds) ≡ true
each_listed mode Orgs = refl
each_listed mode _ = refl

-- a file that is read isn't too large
size_of : (kind : Kind) (mode : Mode) (text : List ℕ) (rows : List SetRow) → file_of kind mode text ≡ Ok rows → nat_lt largest (length text) ≡ false
unfolding file_of
size_of kind mode text rows e = by (nat_lt largest (length text)) refl
  where
    by : (b : Bool) → nat_lt largest (length text) ≡ b → nat_lt largest (length text) ≡ false
    by true long = cc (rw long at e)
    by false short = short

module _ (mode : Mode) (dir : List ℕ) (files : List Stored) (rows : Kind → List Record) (folder : IsExportFolder mode dir files rows) where
  manifest_is : manifest_at dir files ≡ Ok (map (listed mode) all_kinds)
  unfolding manifest_at bytes_of
  manifest_is = rw (folder.manifest, is_short mode) (lists mode)

  all_there : (kinds : List Kind) → all_stand dir (map (listed mode) all_kinds) kinds files ≡ Ok true
  unfolding all_stand
  all_there [] = refl
  all_there (kind ∷ kinds) = rw (each_listed mode kind, (folder.kinds kind).there) (all_there kinds)

  part_is : (kind : Kind) → part_at dir (listed mode kind) files ≡ Ok (part_of mode rows kind)
  unfolding part_at bytes_of
  part_is kind =
      let file = folder.kinds kind in
      rw (file.there, size_of kind mode file.text (map dated (rows kind)) file.back, file.back) refl

  parts_are : (kinds : List Kind) → parts_at dir (map (listed mode) kinds) files ≡ Ok (map (part_of mode rows) kinds)
  unfolding parts_at
  parts_are [] = refl
  parts_are (kind ∷ kinds) = rw (part_is kind, parts_are kinds) refl

  pub read_back : (feed : List ℕ) → set_of dir feed files ≡ Ok (record { feed = feed; parts = parts_of mode rows })
  unfolding set_of set_among
  read_back feed = rw (manifest_is, all_there all_kinds, parts_are all_kinds) refl
