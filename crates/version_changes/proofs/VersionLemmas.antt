-- Tables whose parts were tested.
use Rattle.std.proofs.Common.{◌+◌, ◌≤◌, ℕ, suc, List, [], ◌∷◌, Option, None, Some, length, unwrap_or, refl, arith}
use Rattle.std.specs.List.{AllByRecursion}
use Rattle.std.specs.Option.{ForSome}
use Rattle.roster_values.specs.declared.kind.Kind.{Kind}
use Rattle.version_core.specs.Changes.{AreChanges, change_key}
use Rattle.version_core.specs.Grants.{AreGrants}
use Rattle.version_core.specs.Table.{LeadOn}
use Rattle.version_core.specs.Version.{IsVersion, after, last_version, versions_from}
use Rattle.version_core.specs.declared.change.BaseVersion.{BaseVersion}
use Rattle.version_core.specs.declared.change.Change.{Change}
use Rattle.version_core.specs.declared.grant_row.GrantRow.{GrantRow}
use Rattle.version_core.proofs.GrantLemmas.{AreGrants-later}
use Rattle.version_core.proofs.OrderLemmas.{Ascends-overlaid}
use Rattle.version_changes.specs.sound.Behind.{AreFew}

grants_next : (number later : ℕ) (grants : List GrantRow) (own : Option (List GrantRow)) → number ≤ later → AreGrants number grants → ForSome own (AreGrants later) → AreGrants later (unwrap_or own grants)
grants_next number later grants None le are own = AreGrants-later number later grants le are
grants_next number later grants (Some others) le are own = own others refl

pub versions_sound : (base : BaseVersion) (changes : List Change) → base.number + length changes ≤ last_version → AreChanges base.rows → ((kind : Kind) → AreFew kind base.rows changes) → AreGrants base.number base.grants
    → LeadOn base.number changes → AllByRecursion (λ change. ForSome change.grants (AreGrants change.version)) changes → AllByRecursion IsVersion (versions_from base changes)
versions_sound base [] fits rows few grants lead own = (record { number = omega (arith, fits); rows = rows; few = λ kind. few kind 0 (omega arith); grants = grants }, tt)
versions_sound base (change ∷ changes) fits rows few grants lead own =
    let next = lead.0 in (
      record { number = omega (arith, fits); rows = rows; few = λ kind. few kind 0 (omega arith); grants = grants },
      versions_sound (after base change) changes (omega (arith, fits, next)) (Ascends-overlaid change_key base.rows change.rows rows) (λ kind n le. few kind (suc n) (omega (arith, le)))
          (grants_next base.number change.version base.grants change.grants (omega (arith, next)) grants own.0) lead.1 own.1,
    )
