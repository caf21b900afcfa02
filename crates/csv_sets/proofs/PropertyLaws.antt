-- The property of a kind's file, found by its name.
use Rattle.std.proofs.Common.{◌≡◌, ℕ, Bool, true, false, List, [], ◌∷◌, Some, cond, find, map, refl, sym}
use Rattle.std.specs.Prelude.{bytes_eq, option_map}
use Rattle.std.proofs.lemmas.Slice.Eq.{bytes_eq-Decides}
use Rattle.roster_values.specs.Kinds.{all_kinds}
use Rattle.roster_values.specs.declared.kind.Kind.{Kind}
use Rattle.csv_sets.specs.declared.property.Property.TheVariants.{FileOf, ManifestVersion, OneRosterVersion}
use Rattle.csv_sets.specs.Properties.{property_name, property_of}

pub find_file : (name : List ℕ) (kinds : List Kind) → find (λ p. bytes_eq (property_name p) name) (map (λ kind. FileOf kind) kinds) ≡ option_map (λ kind. FileOf kind) (find (λ kind. bytes_eq (property_name (FileOf kind)) name) kinds)
find_file name [] = refl
find_file name (kind ∷ kinds) =
    elim (bytes_eq (property_name (FileOf kind)) name) as (λ b. cond b (Some (FileOf kind)) (find (λ p. bytes_eq (property_name p) name) (map (λ kind. FileOf kind) kinds))
    ≡ option_map (λ kind. FileOf kind) (cond b (Some kind) (find (λ kind. bytes_eq (property_name (FileOf kind)) name) kinds))) [
      | true ↦ refl
      | false ↦ find_file name kinds
    ]

other_name : (word name : List ℕ) → ¬ (name ≡ word) → bytes_eq word name ≡ false
other_name word name differs = by (bytes_eq word name) refl
  where
    by : (b : Bool) → bytes_eq word name ≡ b → bytes_eq word name ≡ false
    by true e = absurd (differs (sym ((bytes_eq-Decides word name).0 e)))
    by false e = e

-- a name that is none of the two versions is looked for among the kinds
pub file_named : (name : List ℕ) → ¬ (name ≡ property_name ManifestVersion) → ¬ (name ≡ property_name OneRosterVersion)
    → property_of name ≡ option_map (λ kind. FileOf kind) (find (λ kind. bytes_eq (property_name (FileOf kind)) name) all_kinds)
file_named name not_manifest not_oneroster = rw (other_name _ name not_manifest, other_name _ name not_oneroster) (find_file name all_kinds)
