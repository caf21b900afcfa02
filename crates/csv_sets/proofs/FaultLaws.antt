-- No fault of a file or a manifest is that of the folder.
use Rattle.std.proofs.Common.{◌≡◌, ◌+◌, ◌++◌, length, nat_lt, not, ℕ, List, [], ◌∷◌, Bool, true, false, Option, Some}
use Rattle.std.proofs.Common.{None, Result, Ok, Err, inr, ◌∙◌}
use Rattle.std.specs.Prelude.{◌≢◌, ◌&&◌, IfErr, IfSome, if◌then◌else◌}
use Rattle.csv.specs.Reading.{default_config, records, strip_bom}
use Rattle.outside_ports.specs.Files.{Stored}
use Rattle.roster_base.specs.Reading.{Gives, ◌>>=◌}
use Rattle.roster_base.specs.declared.refusal.Refusal.{Refusal}
use Rattle.roster_base.specs.declared.refusal.Refusal.TheVariants as refusal
use Rattle.roster_types.specs.declared.set_row.SetRow.{SetRow}
use Rattle.roster_values.specs.declared.kind.Kind.{Kind}
use Rattle.roster_values.specs.declared.mode.Mode.{Mode}
use Rattle.roster_values.specs.Table.{Info, info_in, table}
use Rattle.csv_sets.specs.declared.fault.ManifestFault.{ManifestFault}
use Rattle.csv_sets.specs.declared.fault.RowFault.{RowFault}
use Rattle.csv_sets.specs.declared.fault.SetFault.{SetFault}
use Rattle.csv_sets.specs.declared.fault.SetFault.TheVariants.{Folder, NotUtf8, RepeatedId, TooLarge}
use Rattle.csv_sets.specs.declared.fault.ColumnFault.TheVariants.{BadKey, Missing, Repeated}
use Rattle.csv_sets.specs.declared.fault.SetFile.TheVariants.{Manifest, RowsOf}
use Rattle.std.specs.Str.{is_utf8}
use Rattle.roster_texts.specs.Texts.{is_id}
use Rattle.csv_sets.specs.Files.{file_of, has_id, in_record, largest, rows_after, rows_of}
use Rattle.csv_sets.specs.Folders.{ReadsFolder, folder_read}
use Rattle.csv_sets.specs.Headers.{Header, columns_checked, columns_of, has_column, header_of, in_file, is_metadata}
use Rattle.csv_sets.specs.Headers.{is_read, key_in, required_checked}
use Rattle.csv_sets.specs.Manifests.{manifest_of}
use Rattle.csv_sets.specs.Rows.{row_at}
use Rattle.csv_sets.specs.Sets.{in_manifest, listed_in}

abbrev pub NoFolder : {A : Type 0} → Result A SetFault → Type 0
NoFolder r = IfErr r (λ f. f ≢ Folder)

no_then : {A B : Type 0} (r : Result A SetFault) (g : A → Result B SetFault) → NoFolder r → ((x : A) → NoFolder (g x)) → NoFolder (r >>= g)
no_then (Ok x) g h k = k x
no_then (Err f) g h k = h

no_if : {A : Type 0} (f : SetFault) (b : Bool) (r : Result A SetFault) → f ≢ Folder → NoFolder r → NoFolder (if b then Err f else r)
no_if f true r h k = h
no_if f false r h k = k

no_columns : (kind : Kind) (before columns : List (List ℕ)) → NoFolder (columns_checked kind before columns)
unfolding columns_checked
no_columns kind before [] = tt
no_columns kind before (c ∷ cs) =
    no_if (in_file kind c Repeated) (is_read kind c && has_column before c) _ (λ e. cc e) (no_if (in_file kind c BadKey) (is_metadata c && not (is_id (key_in c))) _ (λ e. cc e) (no_columns kind (c ∷ before) cs))

no_required : (kind : Kind) (mode : Mode) (columns : List (List ℕ)) (place : ℕ) (is : List Info) → NoFolder (required_checked kind mode columns place is)
unfolding required_checked
no_required kind mode columns place [] = tt
no_required kind mode columns place (i ∷ is) =
    no_if (in_file kind i.column Missing) ((info_in mode place i).required && not (has_column columns i.column)) _ (λ e. cc e) (no_required kind mode columns (place + 1) is)

no_header : (kind : Kind) (mode : Mode) (cells : List (List ℕ)) → NoFolder (header_of kind mode cells)
unfolding header_of
no_header kind mode cells =
    no_then (columns_checked kind [] (columns_of cells)) _ (no_columns kind [] (columns_of cells)) (λ read. no_then (required_checked kind mode (columns_of cells) 0 (table kind)) _ (no_required kind mode (columns_of cells) 0 (table kind)) (λ whole. tt))

no_record : (kind : Kind) (number : ℕ) (r : Result SetRow RowFault) → NoFolder (in_record kind number r)
no_record kind number (Ok row) = tt
no_record kind number (Err f) = λ e. cc e

no_rows : (kind : Kind) (mode : Mode) (header : Header) (front : List SetRow) (number : ℕ) (left : List (List (List ℕ))) → NoFolder (rows_after kind mode header front number left)
unfolding rows_after
no_rows kind mode header front number [] = tt
no_rows kind mode header front number (cells ∷ rest) =
    no_then (in_record kind number (row_at kind mode header cells)) _ (no_record kind number (row_at kind mode header cells)) (λ row. no_if (RepeatedId (RowsOf kind) number) (has_id row.row.id front) _ (λ e. cc e) (no_rows kind mode header (front ++ row ∷ []) (number + 1) rest))

no_records : (kind : Kind) (mode : Mode) (records : List (List (List ℕ))) → NoFolder (rows_of kind mode records)
unfolding rows_of
no_records kind mode [] = no_then (header_of kind mode []) _ (no_header kind mode []) (λ h. tt)
no_records kind mode (cells ∷ rest) = no_then (header_of kind mode cells) _ (no_header kind mode cells) (λ h. no_rows kind mode h [] 2 rest)

pub no_file : (kind : Kind) (mode : Mode) (bytes : List ℕ) → NoFolder (file_of kind mode bytes)
unfolding file_of
no_file kind mode bytes =
    no_if (TooLarge (RowsOf kind)) (nat_lt largest (length bytes)) _ (λ e. cc e) (no_if (NotUtf8 (RowsOf kind)) (not (is_utf8 bytes)) _ (λ e. cc e) (no_records kind mode (records default_config (strip_bom bytes))))

no_manifest : {A : Type 0} (r : Result A ManifestFault) → NoFolder (in_manifest r)
no_manifest (Ok x) = tt
no_manifest (Err f) = λ e. cc e

pub no_listed : (bytes : List ℕ) → NoFolder (listed_in bytes)
unfolding listed_in
no_listed bytes = no_if (NotUtf8 Manifest) (not (is_utf8 bytes)) _ (λ e. cc e) (no_manifest (manifest_of (records default_config (strip_bom bytes))))

-- what follows of files that are told
pub told : (o : Option (List Stored)) (P R : List Stored → Type 0) → ((fs : List Stored) → P fs → R fs) → IfSome o P → IfSome o R
told None P R f p = tt
told (Some fs) P R f p = f fs p

-- what was read of bytes, where these are what the folder's files mean
pub from_given : {X Y : Type 0} (view : X → Y) (files : Option (List Stored)) (before now : ℕ) (r : Result X (Refusal SetFault)) (meaning : Result Y SetFault) (whole : List Stored → Result Y SetFault)
    → Gives view r meaning → NoFolder meaning → now ≡ before → IfSome files (λ fs. whole fs ≡ meaning) → ReadsFolder view (folder_read files before now) r whole
from_given view files before now (Ok x) meaning whole g nf n t = (n, told files _ _ (λ fs e. e ∙ g) t)
from_given view files before now (Err (refusal.Fault f)) meaning whole g nf n t = inr (rw g at nf, n, told files _ _ (λ fs e. e ∙ g) t)
from_given view files before now (Err refusal.NoMemory) meaning whole g nf n t = n
