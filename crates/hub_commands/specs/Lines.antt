-- The lines that the program prints beside what a command is asked for.
use Rattle.std.specs.Prelude.{ℕ, ◌++◌, List, [], Option, None, Some, codes, decimal}
use Rattle.std.specs.List.{flat_map}
use Rattle.csv_sets.specs.declared.fault.ColumnFault.{ColumnFault}
use Rattle.csv_sets.specs.declared.fault.ColumnFault.TheVariants.{BadKey, Missing, Repeated}
use Rattle.csv_sets.specs.declared.fault.SetFault.{SetFault}
use Rattle.csv_sets.specs.declared.fault.SetFault.TheVariants.{Column, Folder, Manifest, MissingFile, NotUtf8}
use Rattle.csv_sets.specs.declared.fault.SetFault.TheVariants.{RepeatedId, Row, TooLarge, UnexpectedFile}
use Rattle.csv_sets.specs.declared.fault.ManifestFault.{ManifestFault}
use Rattle.csv_sets.specs.declared.fault.ManifestFault.TheVariants as manifest
use Rattle.csv_sets.specs.Names.{name_of}
use Rattle.csv_sets.specs.Properties.{property_name}
use Rattle.grant_files.specs.declared.fault.GrantFault.{GrantFault}
use Rattle.grant_files.specs.declared.fault.GrantFault.TheVariants as grant
use Rattle.http_wire.specs.declared.fault.WireFault.{WireFault}
use Rattle.http_wire.specs.declared.fault.WireFault.TheVariants as wire
use Rattle.rest_provider.specs.declared.request_fault.RequestFault.{RequestFault}
use Rattle.rest_provider.specs.declared.request_fault.RequestFault.TheVariants.{AfterClose, Unreadable}
use Rattle.reference_rules.specs.declared.ref_fault.Fault.{Fault}
use Rattle.reference_rules.specs.declared.ref_fault.Fault.TheVariants as reference
use Rattle.reference_rules.specs.declared.ref_fault.RefFault.{RefFault}
use Rattle.roster_types.specs.declared.owner.Owner.{Owner}
use Rattle.roster_types.specs.declared.owner.Owner.TheVariants.{Caller, Feed}
use Rattle.roster_values.specs.Kinds.{plural_of}
use Rattle.version_changes.specs.declared.sets.publish_fault.PublishFault.{PublishFault}
use Rattle.version_changes.specs.declared.sets.publish_fault.PublishFault.TheVariants.{LastVersion, OwnedByOther}
use Rattle.version_changes.specs.declared.sets.publish_fault.PublishFault.TheVariants.{TooManyRows, Unsound}
use Rattle.roster_texts.specs.declared.fault.ValueFault.{ValueFault}
use Rattle.roster_texts.specs.declared.fault.ValueFault.TheVariants.{BadDay, BadId, BadList, BadMoment, BadNumber}
use Rattle.roster_texts.specs.declared.fault.ValueFault.TheVariants.{Empty, Fractional, NotInList, TooLong, Width}

abbrev pub column_word : ColumnFault → List ℕ
column_word Repeated = codes "repeated"
column_word BadKey = codes "bad key"
column_word Missing = codes "missing"

abbrev pub value_word : ValueFault → List ℕ
value_word Empty = codes "empty"
value_word NotInList = codes "not in list"
value_word BadDay = codes "bad day"
value_word BadMoment = codes "bad moment"
value_word BadNumber = codes "bad number"
value_word Fractional = codes "fractional"
value_word TooLong = codes "too long"
value_word BadList = codes "bad list"
value_word BadId = codes "bad id"
value_word Width = codes "width"

-- a fault of a record: its width is no field's
unfoldable pub row_text : List ℕ → ℕ → List ℕ → ValueFault → List ℕ
row_text file number field Width = codes "refused: " ++ file ++ codes " record " ++ decimal number ++ codes ": width\n"
row_text file number field fault =
    codes "refused: " ++ file ++ codes " record " ++ decimal number ++ codes " field " ++ field ++ codes ": " ++ value_word fault ++ codes "\n"

abbrev pub folder_failed : List ℕ
folder_failed = codes "folder failed\n"

-- what is wrong with a property of a manifest
abbrev pub property_text : List ℕ → List ℕ → List ℕ
property_text why name = codes "refused: manifest.csv: " ++ why ++ name ++ codes "\n"

unfoldable pub manifest_text : ManifestFault → List ℕ
manifest_text manifest.Header = codes "refused: manifest.csv: header\n"
manifest_text (manifest.Width number) = codes "refused: manifest.csv record " ++ decimal number ++ codes ": width\n"
manifest_text (manifest.Repeated property) = property_text (codes "repeated ") (property_name property)
manifest_text (manifest.Version property) = property_text (codes "version of ") (property_name property)
manifest_text (manifest.UnknownMode property) = property_text (codes "unknown mode of ") (property_name property)
manifest_text (manifest.Missing property) = property_text (codes "missing ") (property_name property)

-- the line of the first fault of a set; a folder that failed refuses nothing
unfoldable pub fault_text : SetFault → List ℕ
fault_text (Manifest fault) = manifest_text fault
fault_text (MissingFile file) = codes "refused: " ++ name_of file ++ codes ": missing file\n"
fault_text (UnexpectedFile file) = codes "refused: " ++ name_of file ++ codes ": unexpected file\n"
fault_text (Column file column fault) = codes "refused: " ++ name_of file ++ codes ": column " ++ column ++ codes " " ++ column_word fault ++ codes "\n"
fault_text (Row file number field fault) = row_text (name_of file) number field fault
fault_text (RepeatedId file number) = codes "refused: " ++ name_of file ++ codes " record " ++ decimal number ++ codes ": repeated id\n"
fault_text (TooLarge file) = codes "refused: " ++ name_of file ++ codes ": too large\n"
fault_text (NotUtf8 file) = codes "refused: " ++ name_of file ++ codes ": not UTF-8\n"
fault_text Folder = folder_failed

-- ---- what `publish` tells

unfoldable pub published_text : List ℕ → ℕ → List ℕ
published_text feed number = feed ++ codes " version " ++ decimal number ++ codes "\n"

unfoldable pub unchanged_text : List ℕ → ℕ → List ℕ
unchanged_text feed number = feed ++ codes " unchanged " ++ decimal number ++ codes "\n"

abbrev pub owner_text : Owner → List ℕ
owner_text (Feed name) = codes "feed " ++ name
owner_text (Caller name) = codes "caller " ++ name

abbrev pub reference_word : Fault → List ℕ
reference_word reference.Missing = codes "missing"
reference_word reference.WrongType = codes "wrong type"
reference_word reference.Cycle = codes "cycle"
reference_word reference.DayOrder = codes "day order"

-- the id that a broken reference names, where it names one
abbrev pub target_text : Option (List ℕ) → List ℕ
target_text None = []
target_text (Some id) = codes " " ++ id

unfoldable pub reference_text : RefFault → List ℕ
reference_text f =
    codes "refused: " ++ plural_of f.kind ++ codes " " ++ f.id ++ codes " " ++ f.field ++ target_text f.target ++ codes ": " ++ reference_word f.fault ++ codes "\n"

-- the lines of why a set isn't published: one for each broken reference
unfoldable pub publish_fault_text : PublishFault → List ℕ
publish_fault_text (OwnedByOther kind id owner) =
    codes "refused: " ++ plural_of kind ++ codes " " ++ id ++ codes " is owned by " ++ owner_text owner ++ codes "\n"
publish_fault_text (TooManyRows kind count) = codes "refused: " ++ plural_of kind ++ codes ": too many rows\n"
publish_fault_text (Unsound faults) = flat_map reference_text faults
publish_fault_text LastVersion = codes "refused: last version\n"

-- ---- what `grant` tells

-- what is wrong with a record of a file of grants
abbrev pub grants_record_text : ℕ → List ℕ → List ℕ
grants_record_text number why = codes "refused: grants record " ++ decimal number ++ codes ": " ++ why ++ codes "\n"

unfoldable pub grants_fault_text : GrantFault → List ℕ
grants_fault_text grant.NotUtf8 = codes "refused: grants: not UTF-8\n"
grants_fault_text grant.Header = codes "refused: grants: header\n"
grants_fault_text grant.TooMany = codes "refused: grants: too many\n"
grants_fault_text (grant.Width number) = grants_record_text number (codes "width")
grants_fault_text (grant.BadName number) = grants_record_text number (codes "bad name")
grants_fault_text (grant.BadToken number) = grants_record_text number (codes "bad token")
grants_fault_text (grant.BadScope number) = grants_record_text number (codes "bad scope")
grants_fault_text (grant.BadSchools number) = grants_record_text number (codes "bad schools")
grants_fault_text (grant.RepeatedCaller number) = grants_record_text number (codes "repeated caller")
grants_fault_text (grant.RepeatedToken number) = grants_record_text number (codes "repeated token")

-- ---- what `ask` tells

abbrev pub unreadable_word : WireFault → List ℕ
unreadable_word wire.Cut = codes "cut"
unreadable_word wire.Head = codes "head"
unreadable_word wire.HeadTooLong = codes "head too long"
unreadable_word wire.Length = codes "length"
unreadable_word wire.BodyTooLong = codes "body too long"
unreadable_word wire.Chunked = codes "chunked"
unreadable_word _ = []

abbrev pub request_word : RequestFault → List ℕ
request_word (Unreadable fault) = unreadable_word fault
request_word AfterClose = codes "after close"

-- the line of why the rest of a stream is refused, under the number of the next request
unfoldable pub request_text : ℕ → RequestFault → List ℕ
request_text number fault = codes "refused: request " ++ decimal number ++ codes ": " ++ request_word fault ++ codes "\n"

-- the line of a script that is refused for its line of this number, from 1
unfoldable pub script_text : ℕ → List ℕ
script_text line = codes "refused: script line " ++ decimal line ++ codes "\n"

-- what is wrong with a file that the words name
abbrev pub named_file_text : List ℕ → List ℕ → List ℕ
named_file_text name why = codes "refused: " ++ name ++ why

-- the place, from 0, of the first word that no command continues
unfoldable pub bad_word_text : ℕ → List ℕ
bad_word_text place = codes "bad word " ++ decimal place ++ codes "\n"

abbrev pub hub_failed : List ℕ
hub_failed = codes "hub store failed\n"

abbrev pub copy_failed : List ℕ
copy_failed = codes "copy store failed\n"

abbrev pub nothing_held : List ℕ
nothing_held = codes "nothing held\n"

abbrev pub no_memory : List ℕ
no_memory = codes "no memory\n"
