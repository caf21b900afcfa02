use Rattle.std.proofs.Common.{◌≡◌, ◌+◌, Some, ap, subst, ◌∙◌}
use Rattle.version_changes.proofs.Granted.{AreGrants-grants_from, leads_on}
use Rattle.version_changes.specs.grants.Granting.{grants_from}
use Rattle.version_changes.specs.sets.Applying.{LeadsOn}
use Rattle.version_core.specs.Grants.{AreGrants}
use Rattle.version_core.specs.Version.{last_version, newest_of}
use Rattle.version_core.specs.declared.change.Change.{Change}
use Rattle.version_changes.proofs.grants.granting.grants_change.Goals as goal

pub returns-clause-next : goal.returns-clause-next
returns-clause-next c = λ change some.
    let newest = newest_of c.args.table.now in
    let is = c.newest_rows-view.ensures.version in
    let number : c.newest-2.result + 1 ≡ newest.number + 1 = ap (λ n. n + 1) c.newest-2.ensures in
    let more : newest.number ≡ last_version → ⊥ = λ last. c.if-newest-eq-LAST_VERSION.false (c.newest.ensures ∙ last) in
    let good : AreGrants (newest.number + 1) (grants_from newest c.args.list.now) = AreGrants-grants_from newest is c.args.list.now c.in_ok-grants.ensures.differ in
    let made : Change = record { version = c.newest-2.result + 1; moment = c.args.at; rows = c.new.result; grants = Some c.in_ok-grants.grants } in
    let same : made ≡ change = cc in
    subst (LeadsOn newest) same (leads_on newest is (c.newest-2.result + 1) c.args.at c.new.result c.in_ok-grants.grants number c.new.ensures more (rw (number, c.in_ok-grants.ensures.grants) good))
