-- What the versions of tables are, and what fits after a change.
use Rattle.std.proofs.Common.{Less, Equal, Greater, ◌≡◌, ◌+◌, ◌≤◌, ℕ, List, [], ◌∷◌, ◌++◌, length, length-append}
use Rattle.std.proofs.Common.{unwrap_or, Option, None, Some, refl, subst, arith}
use Rattle.std.specs.List.{AllByRecursion}
use Rattle.std.specs.Option.{ForSome}
use Rattle.roster_base.specs.Order.{RiseBy}
use Rattle.roster_types.specs.Keys.{key_cmp}
use Rattle.version_core.specs.Changes.{change_key}
use Rattle.version_core.specs.Grants.{caller_of}
use Rattle.version_core.specs.HubStates.{AreVersionsFrom}
use Rattle.version_core.specs.Order.{by_order, overlaid, put}
use Rattle.version_core.specs.Version.{IsVersion, after, versions_from}
use Rattle.version_core.specs.declared.change.BaseVersion.{BaseVersion}
use Rattle.version_core.specs.declared.change.Change.{Change}
use Rattle.version_core.specs.declared.grant_row.GrantRow.{GrantRow}
use Rattle.version_core.specs.declared.row_change.RowChange.{RowChange}
use Rattle.hub_format.specs.Format.{FitsGrant}
use Rattle.hub_format.specs.Pieces.{IsReadBack}
use Rattle.hub_format.proofs.Folding.{Later}

-- the first of a run
pub first_run : (n : ℕ) (base : BaseVersion) (changes : List Change) → AreVersionsFrom n (versions_from base changes) → (base.number ≡ n) × IsVersion base
first_run n base [] run = (run.0, run.1)
first_run n base (change ∷ changes) run = (run.0, run.1)

pub ahead : (m n : ℕ) (base : BaseVersion) (changes : List Change) → m ≤ n → AreVersionsFrom n (versions_from base changes) → Later m changes
ahead m n base [] le run = tt
ahead m n base (change ∷ changes) le run =
    let first = first_run (n + 1) (after base change) changes run.2 in
    let number = first.0 in
    let few = first.1.number in
    ((omega (arith, le, number), few), ahead m (n + 1) (after base change) changes (omega (arith, le)) run.2)

pub rise_of : (grants : Option (List GrantRow)) (others : List GrantRow) → RiseBy caller_of (unwrap_or grants others) → ForSome grants (RiseBy caller_of)
rise_of None others rise = λ x is. absurd cc
rise_of (Some grants) others rise = λ x is. let same : grants ≡ x = cc in subst (RiseBy caller_of) same rise

pub fit_laid : (base rows : List RowChange) → AllByRecursion IsReadBack base → AllByRecursion IsReadBack rows → AllByRecursion IsReadBack (overlaid change_key base rows)
fit_laid base [] all news = all
fit_laid base (row ∷ rows) all news = one (overlaid change_key base rows) (fit_laid base rows all news.1)
  where
    one : (others : List RowChange) → AllByRecursion IsReadBack others → AllByRecursion IsReadBack (put change_key row others)
    one [] all = (news.0, tt)
    one (other ∷ others) all = elim (key_cmp (change_key row) (change_key other)) as (λ o. AllByRecursion IsReadBack (by_order o (row ∷ other ∷ others) (row ∷ others) (other ∷ put change_key row others))) [
      | Less ↦ (news.0, all)
      | Equal ↦ (news.0, all.1)
      | Greater ↦ (all.0, one others all.1)
    ]

pub fit_taken : (grants : Option (List GrantRow)) (others : List GrantRow) → ForSome grants (AllByRecursion FitsGrant) → AllByRecursion FitsGrant others → AllByRecursion FitsGrant (unwrap_or grants others)
fit_taken None others fits all = all
fit_taken (Some grants) others fits all = fits grants refl

pub split : (changes : List Change) (change : Change) → (oldest : Change) × (rest : List Change) × (changes ++ change ∷ [] ≡ oldest ∷ rest) × (length rest ≡ length changes)
split [] change = (change, [], refl, refl)
split (x ∷ changes) change = (x, changes ++ change ∷ [], refl, omega (arith, length-append changes (change ∷ [])))
