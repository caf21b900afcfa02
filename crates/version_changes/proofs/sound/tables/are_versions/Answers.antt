use Rattle.std.proofs.Common.{subst}
use Rattle.version_core.specs.Grants.{AreGrants}
use Rattle.version_changes.proofs.VersionLemmas.{versions_sound}
use Rattle.version_changes.proofs.sound.tables.are_versions.Goals as goal

pub are_few-requires : goal.are_few-requires
are_few-requires c = c.as_slice-2.ensures.sorted

pub returns-clause-fits : goal.returns-clause-fits
returns-clause-fits c = λ yes. c.fits.ensures c.if-not-fits.false

pub returns-clause-lead : goal.returns-clause-lead
returns-clause-lead c = λ yes. c.leads_on.ensures c.if-not-leads_on.false

pub returns-clause-versions : goal.returns-clause-versions
returns-clause-versions c = λ yes.
    let base = c.args.base.now in
    versions_sound base c.args.changes.now (c.fits.ensures c.if-not-fits.false) c.as_slice-2.ensures.sorted (c.are_few.ensures yes)
    (subst (AreGrants base.number) c.as_slice.ensures (c.are_grants.ensures c.if-not-are_grants.false)) (c.leads_on.ensures c.if-not-leads_on.false) (c.are_all_own.ensures c.if-not-are_all_own.false)
