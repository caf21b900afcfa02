-- What was written in front of a rest is found again.
use Rattle.std.proofs.Common.{◌≡◌, ◌<◌, ◌^◌, ℕ, ℤ, pos, negsuc, List, [], ◌∷◌, ◌++◌, append_assoc, drop, length, None}
use Rattle.std.proofs.Common.{Ok, Result, refl, sym, ap, ◌∙◌, subst, arith}
use Rattle.std.specs.Int.{cast_signed, cast_unsigned, w64}
use Rattle.std.specs.Int.RustNames.{FitsSigned}
use Rattle.std.specs.List.{AllByRecursion}
use Rattle.std.proofs.lemmas.Int.{to_z-of_z}
use Rattle.grant_scopes.specs.declared.schools.Schools.{Schools}
use Rattle.grant_scopes.specs.declared.schools.Schools.TheVariants as schools
use Rattle.roster_types.specs.declared.owner.Owner.{Owner}
use Rattle.roster_types.specs.declared.owner.Owner.TheVariants.{Caller, Feed}
use Rattle.roster_types.specs.Records.{Record}
use Rattle.roster_values.specs.declared.kind.Kind.{Kind}
use Rattle.row_json.specs.Json.{single_text}
use Rattle.row_json.specs.Reading.{row_of}
use Rattle.row_json.specs.declared.fault.JsonFault.{JsonFault}
use Rattle.version_core.specs.declared.change.BaseVersion.{BaseVersion}
use Rattle.version_core.specs.declared.row_change.RowChange.{RowChange}
use Rattle.hub_format.specs.Format.{Entry, state_entry}
use Rattle.hub_format.specs.Pieces.{AreSized, IsReadBack, IsSized, all_sized, moment, number, owner_bytes, owner_name}
use Rattle.hub_format.specs.Pieces.{row_body, schools_bytes, sized}
use Rattle.hub_format.proofs.Orders.{same_number}

-- beginnings that are as long are equal
pub same_ends : (a b x y : List ℕ) → length a ≡ length b → a ++ x ≡ b ++ y → (a ≡ b) × (x ≡ y)
same_ends [] [] x y long same = (refl, same)
same_ends [] (c ∷ b) x y long same = absurd (omega arith)
same_ends (c ∷ a) [] x y long same = absurd (omega arith)
same_ends (c ∷ a) (d ∷ b) x y long same =
    let head : c ≡ d = cc in
    let tail : a ++ x ≡ b ++ y = cc in
    let rest = same_ends a b x y (omega arith) tail in
    ((λ i. head i ∷ rest.0 i), rest.1)

pub number_back : (m n : ℕ) (x y : List ℕ) → m < 2 ^ 64 → n < 2 ^ 64 → number m ++ x ≡ number n ++ y → (m ≡ n) × (x ≡ y)
number_back m n x y fits_m fits_n same =
    let parts = same_ends (number m) (number n) x y refl same in
    (same_number m n fits_m fits_n parts.0, parts.1)

pub cast_fits : (z : ℤ) → FitsSigned w64 z → cast_unsigned w64 z < 2 ^ 64
cast_fits (pos n) fits = let small = fits.sfits in omega arith
cast_fits (negsuc n) fits = let small = fits.sfits in omega arith

pub moment_back : (a b : ℤ) (x y : List ℕ) → FitsSigned w64 a → FitsSigned w64 b → moment a ++ x ≡ moment b ++ y → (a ≡ b) × (x ≡ y)
moment_back a b x y fits_a fits_b same =
    let parts = number_back (cast_unsigned w64 a) (cast_unsigned w64 b) x y (cast_fits a fits_a) (cast_fits b fits_b) same in
    (sym (to_z-of_z w64 a fits_a) ∙ ap (cast_signed w64) parts.0 ∙ to_z-of_z w64 b fits_b, parts.1)

pub sized_back : (a b x y : List ℕ) → IsSized a → IsSized b → sized a ++ x ≡ sized b ++ y → (a ≡ b) × (x ≡ y)
sized_back a b x y fits_a fits_b same =
    let parts = number_back (length a) (length b) (a ++ x) (b ++ y) fits_a fits_b same in
    same_ends a b x y parts.0 parts.1

all_sized_back : (firsts others : List (List ℕ)) (x y : List ℕ) → length firsts ≡ length others → AllByRecursion IsSized firsts → AllByRecursion IsSized others → all_sized firsts ++ x ≡ all_sized others ++ y → (firsts ≡ others) × (x ≡ y)
all_sized_back [] [] x y long fits_a fits_b same = (refl, same)
all_sized_back [] (b ∷ others) x y long fits_a fits_b same = absurd (omega arith)
all_sized_back (a ∷ firsts) [] x y long fits_a fits_b same = absurd (omega arith)
all_sized_back (a ∷ firsts) (b ∷ others) x y long fits_a fits_b same =
    let first = sized_back a b (all_sized firsts ++ x) (all_sized others ++ y) fits_a.0 fits_b.0 (sym (append_assoc (sized a) (all_sized firsts) x) ∙ same ∙ append_assoc (sized b) (all_sized others) y) in
    let rest = all_sized_back firsts others x y (omega arith) fits_a.1 fits_b.1 first.1 in
    ((λ i. first.0 i ∷ rest.0 i), rest.1)

pub schools_back : (s t : Schools) (x y : List ℕ) → AreSized s → AreSized t → schools_bytes s ++ x ≡ schools_bytes t ++ y → (s ≡ t) × (x ≡ y)
schools_back schools.All schools.All x y fits_s fits_t same = (refl, ap (drop 1) same)
schools_back schools.All (schools.Listed ids) x y fits_s fits_t same = absurd cc
schools_back (schools.Listed ids) schools.All x y fits_s fits_t same = absurd cc
schools_back (schools.Listed ids) (schools.Listed others) x y fits_s fits_t same =
    let counts = number_back (length ids) (length others) (all_sized ids ++ x) (all_sized others ++ y) fits_s.0 fits_t.0 (ap (drop 1) same) in
    let parts = all_sized_back ids others x y counts.0 fits_s.1 fits_t.1 counts.1 in
    (ap schools.Listed parts.0, parts.1)

pub owner_back : (o p : Owner) (x y : List ℕ) → IsSized (owner_name o) → IsSized (owner_name p) → owner_bytes o ++ x ≡ owner_bytes p ++ y → (o ≡ p) × (x ≡ y)
owner_back (Feed a) (Feed b) x y fits_a fits_b same = let parts = sized_back a b x y fits_a fits_b (ap (drop 1) same) in (ap Feed parts.0, parts.1)
owner_back (Caller a) (Caller b) x y fits_a fits_b same = let parts = sized_back a b x y fits_a fits_b (ap (drop 1) same) in (ap Caller parts.0, parts.1)
owner_back (Feed a) (Caller b) x y fits_a fits_b same = absurd cc
owner_back (Caller a) (Feed b) x y fits_a fits_b same = absurd cc

-- the state's entry
pub state_back : (k l : ℕ) (a b : BaseVersion) → k < 2 ^ 64 → l < 2 ^ 64 → a.number < 2 ^ 64 → b.number < 2 ^ 64 → FitsSigned w64 a.moment → FitsSigned w64 b.moment
    → state_entry k a ≡ state_entry l b → (k ≡ l) × (a.number ≡ b.number) × (a.moment ≡ b.moment)
state_back k l a b fits_k fits_l fits_a fits_b small_a small_b same =
    let keeps = number_back k l (number a.number ++ moment a.moment) (number b.number ++ moment b.moment) fits_k fits_l (ap (λ (e : Entry). e.1) same) in
    let numbers = number_back a.number b.number (moment a.moment) (moment b.moment) fits_a fits_b keeps.1 in
    let moments = moment_back a.moment b.moment [] [] small_a small_b (ap (λ xs. xs ++ []) numbers.1) in
    (keeps.0, numbers.0, moments.0)

-- the parts of a row's body are those of the row
pub row_back : (change : RowChange) (kind : Kind) (byte : ℕ) (name text : List ℕ) (owner : Owner) (row : Record) → IsReadBack change → change.row.kind ≡ kind
    → byte ∷ sized name ++ sized text ≡ row_body change → byte ∷ sized name ≡ owner_bytes owner → owner_name owner ≡ name → IsSized name → IsSized text
    → row_of kind text ≡ Ok row → (owner ≡ change.owner) × (row ≡ change.row)
row_back change kind byte name text owner row back kinds body bytes named short_name short_text read =
    let same : owner_bytes owner ++ sized text ≡ owner_bytes change.owner ++ sized (single_text None change.row) = ap (λ xs. xs ++ sized text) (sym bytes) ∙ body in
    let owners = owner_back owner change.owner (sized text) (sized (single_text None change.row)) (subst IsSized (sym named) short_name) back.owner same in
    let rest : sized text ++ [] ≡ sized (single_text None change.row) ++ [] = ap (λ xs. xs ++ []) owners.1 in
    let texts = sized_back text (single_text None change.row) [] [] short_text back.text rest in
    let rows : ◌≡◌ {A = Result Record JsonFault} (Ok row) (Ok change.row) = sym read ∙ ap (λ t. row_of kind t) texts.0 ∙ ap (λ k. row_of k (single_text None change.row)) (sym kinds) ∙ back.row in
    (owners.0, cc)
