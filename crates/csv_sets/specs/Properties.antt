-- The properties of a manifest that are read: two versions, and how each kind's file is to be read.
use Rattle.std.specs.Prelude.{List, ◌++◌, ◌∷◌, Option, bytes_eq, codes, find, map, ℕ}
use Rattle.roster_values.specs.Kinds.{all_kinds, plural_of}
use Rattle.csv_sets.specs.declared.property.Property.{Property}
use Rattle.csv_sets.specs.declared.property.Property.TheVariants.{FileOf, ManifestVersion, OneRosterVersion}

-- the name of a property, as the first cell of a record has it
abbrev pub property_name : Property → List ℕ
property_name ManifestVersion = codes "manifest.version"
property_name OneRosterVersion = codes "oneroster.version"
property_name (FileOf kind) = codes "file." ++ plural_of kind

-- every property
abbrev pub all_properties : List Property
all_properties = ManifestVersion ∷ OneRosterVersion ∷ map (λ kind. FileOf kind) all_kinds

-- the property of that name
abbrev pub property_of : List ℕ → Option Property
property_of name = find (λ p. bytes_eq (property_name p) name) all_properties
