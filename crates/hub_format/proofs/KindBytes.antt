-- The bytes of kinds.
use Rattle.std.proofs.Common.{◌≡◌, ◌<◌, ◌^◌, ◌∙◌, ℕ, Some, ap, arith, sym}
use Rattle.std.specs.Prelude.{slice_get}
use Rattle.std.proofs.lemmas.Option.{get_or_from_slice_get, slice_get_within}
use Rattle.roster_values.proofs.KindLaws.{place_below, place_of_kind_at}
use Rattle.roster_values.specs.Kinds.{all_kinds, place_of_kind}
use Rattle.roster_values.specs.declared.kind.Kind.{Kind}
use Rattle.roster_values.specs.declared.kind.Kind.TheVariants.{Orgs}

-- a place is a byte
pub place_byte : (kind : Kind) → place_of_kind kind < 2 ^ 8
place_byte kind = let below = place_below kind in omega (arith, below)

-- and the kind at a byte has its place there
pub kind_placed : (n : ℕ) (kind : Kind) → slice_get all_kinds n ≡ Some kind → place_of_kind kind ≡ n
kind_placed n kind at =
    sym (ap place_of_kind (get_or_from_slice_get all_kinds n kind Orgs at)) ∙ place_of_kind_at n (slice_get_within all_kinds n kind at)
