-- The names of a set's files.
use Rattle.std.specs.Prelude.{ℕ, List, codes}
use Rattle.roster_values.specs.Kinds.{file_of}
use Rattle.csv_sets.specs.declared.fault.SetFile.{SetFile}
use Rattle.csv_sets.specs.declared.fault.SetFile.TheVariants.{Manifest, RowsOf}

-- the name of a file in the set's folder
abbrev pub name_of : SetFile → List ℕ
name_of Manifest = codes "manifest.csv"
name_of (RowsOf kind) = file_of kind
