-- A set without its rows leaves out what the set leaves out.
use Rattle.std.proofs.Common.{◌≡◌, zero, suc, ◌&&◌, ◌==◌, ◌||◌, cond, List, [], ◌∷◌, map, Option, Some, None}
use Rattle.std.proofs.Common.{option_map, refl, sym, ap, subst, ◌∙◌, arith, ℤ, nat_cmp}
use Rattle.std.specs.List.{All, IsDistinct}
use Rattle.std.specs.List.Sorted.{IsStrictlySortedBy}
use Rattle.roster_types.specs.Sets.{AreParts, IsPart, SetRecord}
use Rattle.roster_types.specs.declared.set.SetPart.{SetPart}
use Rattle.roster_types.specs.declared.set_row.SetRow.{SetRow}
use Rattle.roster_values.specs.Kinds.{place_of_kind}
use Rattle.roster_values.specs.declared.kind.Kind.{Kind}
use Rattle.version_changes.specs.sets.Applying.{Becomes, is_active, is_bulk, is_left_out, is_own, is_whole, marked}
use Rattle.version_changes.specs.sets.Applying.{unlisted}
use Rattle.version_changes.specs.sets.Steps.{ChangesAt, bare, bare_set}
use Rattle.version_core.specs.declared.row_change.RowChange.{RowChange}

-- ---- its parts are those of a set

kinds-bare : (parts : List SetPart) → map (λ (part : SetPart). place_of_kind part.kind) (map bare parts) ≡ map (λ (part : SetPart). place_of_kind part.kind) parts
kinds-bare [] = refl
kinds-bare (part ∷ parts) = ap (λ ns. place_of_kind part.kind ∷ ns) (kinds-bare parts)

IsPart-bare : (part : SetPart) → IsPart (bare part)
unfolding IsDistinct
IsPart-bare part = record { kinds = λ k d lt. absurd (omega arith); differ = tt; dates = λ k d lt. absurd (omega arith) }

each-bare : (parts : List SetPart) → All IsPart (map bare parts)
each-bare [] k d lt = absurd (omega arith)
each-bare (part ∷ parts) zero d lt = IsPart-bare part
each-bare (part ∷ parts) (suc k) d lt = each-bare parts k d (omega arith)

pub AreParts-bare : (parts : List SetPart) → AreParts parts → AreParts (map bare parts)
AreParts-bare parts are = record { rise = subst (IsStrictlySortedBy nat_cmp) (sym (kinds-bare parts)) are.rise; parts = each-bare parts }

-- ---- it changes what the set changes

is_whole-bare : (parts : List SetPart) (kind : Kind) → is_whole (map bare parts) kind ≡ is_whole parts kind
is_whole-bare [] kind = refl
is_whole-bare (part ∷ parts) kind = ap (λ b. ((place_of_kind part.kind == place_of_kind kind) && is_bulk part.mode) || b) (is_whole-bare parts kind)

module _ (set : SetRecord) (at : ℤ) where
  left_out-bare : (stored : RowChange) → is_left_out (bare_set set) stored ≡ is_left_out set stored
  left_out-bare stored = ap (λ b. b && (is_own set.feed stored.owner && is_active stored.row.status)) (is_whole-bare set.parts stored.row.kind)

  unlisted-bare : (stored : Option RowChange) → option_map (unlisted (bare_set set) at) stored ≡ option_map (unlisted set at) stored
  unlisted-bare None = refl
  unlisted-bare (Some stored) = ap (λ b. Some (cond b (marked at stored) stored)) (left_out-bare stored)

  becomes-bare : (listed : Option SetRow) (stored new : Option RowChange) → Becomes (bare_set set) at listed stored new → Becomes set at listed stored new
  becomes-bare None stored new becomes = becomes ∙ unlisted-bare stored
  becomes-bare (Some listed) stored (Some new) becomes = becomes
  becomes-bare (Some listed) stored None becomes = becomes

  pub changes-bare : (listed : Option SetRow) (stored change : Option RowChange) → ChangesAt (bare_set set) at listed stored change → ChangesAt set at listed stored change
  changes-bare listed stored None changes = becomes-bare listed stored stored changes
  changes-bare listed stored (Some change) changes = (becomes-bare listed stored (Some change) changes.0, changes.1)
