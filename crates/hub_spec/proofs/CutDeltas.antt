-- What differs between two cuts leads from one to the other.
use Rattle.std.proofs.Common.{◌≡◌, ℕ, zero, suc, List, [], ◌∷◌, Bool, true, false, cond, get_or, map, Option, None}
use Rattle.std.proofs.Common.{Some, refl, sym, subst, ◌∙◌}
use Rattle.std.specs.Option.{option_map_or}
use Rattle.grant_scopes.specs.Opens.{opens}
use Rattle.grant_scopes.specs.declared.access.Access.TheVariants.{Read}
use Rattle.grant_scopes.specs.declared.grant.Grant.{Grant}
use Rattle.hub_spec.proofs.Cutting.{kind_in_cut}
use Rattle.hub_spec.proofs.ListLemmas.{are_of_kept, ascends_kept}
use Rattle.hub_spec.specs.views.Cuts.{cut_of, kind_cut, list_in, no_rows}
use Rattle.hub_spec.specs.views.Deltas.{delta}
use Rattle.hub_spec.specs.views.Seen.{seen, sees_row}
use Rattle.roster_types.specs.Keys.{Ascends, is_of_kind, row_key}
use Rattle.roster_types.specs.Records.{Record}
use Rattle.roster_values.specs.Kinds.{all_kinds, place_of_kind}
use Rattle.roster_values.specs.declared.kind.Kind.{Kind}
use Rattle.row_deltas.proofs.MergeLemmas.{merged-delta}
use Rattle.row_deltas.specs.Deltas.{AreOf, ids_gone, merged, rows_put}
use Rattle.version_core.proofs.RowsOf.{is_sorted-rows_of}
use Rattle.version_core.specs.Changes.{rows_of}
use Rattle.version_core.specs.Grants.{grant_of}
use Rattle.version_core.specs.Version.{IsVersion}
use Rattle.version_core.specs.declared.change.BaseVersion.{BaseVersion}
use Rattle.version_core.specs.declared.grant_row.GrantRow.{GrantRow}

pub none_at : (kinds : List Kind) (place : ℕ) → (let none : Kind → List Record = λ kind. [] in get_or (map none kinds) place [] ≡ [])
none_at [] place = refl
none_at (kind ∷ kinds) zero = refl
none_at (kind ∷ kinds) (suc place) = none_at kinds place

-- what holds of no rows, and of the kind's rows in any cut, holds of the kind's list
list_meets : (P : List Record → Type 0) (rows : List Record) (kind : Kind) → P [] → ((grant : Grant) → P (kind_cut grant rows kind))
    → (o : Option GrantRow) → P (get_or (option_map_or (λ (row : GrantRow). cut_of row.grant rows) o no_rows) (place_of_kind kind) [])
list_meets P rows kind none each None = subst P (sym (none_at all_kinds (place_of_kind kind))) none
list_meets P rows kind none each (Some by) = subst P (sym (kind_in_cut by.grant rows kind)) (each by.grant)

either_way : (P : List Record → Type 0) (b : Bool) (rows : List Record) → P [] → P rows → P (cond b rows [])
either_way P true rows none all = all
either_way P false rows none all = none

pub list_is_of : (version : BaseVersion) (token : List ℕ) (kind : Kind) → AreOf kind (list_in version token kind)
unfolding kind_cut
list_is_of version token kind = list_meets (AreOf kind) (rows_of version.rows) kind tt each (grant_of token version.grants)
  where
    each : (grant : Grant) → AreOf kind (kind_cut grant (rows_of version.rows) kind)
    each grant = either_way (AreOf kind) (opens grant.scopes kind Read) _ tt (are_of_kept kind (seen grant.schools (rows_of version.rows)))

pub list_ascends : (version : BaseVersion) → IsVersion version → (token : List ℕ) (kind : Kind) → Ascends row_key (list_in version token kind)
unfolding kind_cut
list_ascends version is token kind = list_meets (Ascends row_key) (rows_of version.rows) kind refl each (grant_of token version.grants)
  where
    up : Ascends row_key (rows_of version.rows)
    up = is_sorted-rows_of version.rows ∙ is.rows

    each : (grant : Grant) → Ascends row_key (kind_cut grant (rows_of version.rows) kind)
    each grant = either_way (Ascends row_key) (opens grant.scopes kind Read) _ refl
        (ascends_kept (is_of_kind kind) (seen grant.schools (rows_of version.rows)) (ascends_kept (sees_row grant.schools (rows_of version.rows)) (rows_of version.rows) up))

pub cut_to_cut : (before after : BaseVersion) → IsVersion before → IsVersion after → (token : List ℕ) (kind : Kind)
    → merged (list_in before token kind) (rows_put (delta before after token kind)) (ids_gone (delta before after token kind)) ≡ list_in after token kind
cut_to_cut before after is is' token kind =
    merged-delta kind (list_in before token kind) (list_in after token kind) (list_is_of before token kind) (list_is_of after token kind) (list_ascends before is token kind) (list_ascends after is' token kind)
