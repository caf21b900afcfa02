-- The place of a field by its name.
use Rattle.std.proofs.Common.{◌≡◌, ◌<◌, ℕ, Bool, Some, List, [], ◌∷◌, map, length, refl, arith, not, bytes_eq}
use Rattle.std.proofs.lemmas.List.{length-map}
use Rattle.std.proofs.lemmas.List.Quantifiers.{position-Some}
use Rattle.std.specs.List.{prefix_len}
use Rattle.std.specs.Prelude.{position}
use Rattle.roster_values.specs.declared.kind.Kind.{Kind}
use Rattle.roster_values.specs.Table.{optional, table, TextForm}
use Rattle.roster_types.specs.Records.{IsFitting, Record, all_values, place_in}
use Rattle.roster_types.proofs.Sums.{fields-values}

prefix_len-map : {A B : Type 0} (f : A → B) (p : B → Bool) (xs : List A) → prefix_len p (map f xs) ≡ prefix_len (λ x. p (f x)) xs
prefix_len-map f p [] = refl
prefix_len-map f p (x ∷ xs) = rw (prefix_len-map f p xs) refl

pub position-map : {A B : Type 0} (f : A → B) (p : B → Bool) (xs : List A) → position p (map f xs) ≡ position (λ x. p (f x)) xs
position-map f p xs = rw (prefix_len-map f (λ x. not (p x)) xs, length-map xs f) refl

pub named_within : (r : Record) (kind : Kind) (name : List ℕ) (i : ℕ) → IsFitting r → kind ≡ r.kind → place_in (table kind) name ≡ Some i → i < length (all_values r)
named_within r kind name i h e p =
    let within : i < length (table r.kind) = (position-Some (λ f. bytes_eq f.name name) (table r.kind) i (optional [] [] TextForm) (rw e at p)).0 in
    let n = fields-values r h in
    omega (arith, within, n)
