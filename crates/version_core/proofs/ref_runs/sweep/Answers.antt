use Rattle.std.proofs.Common.{sym, subst}
use Rattle.version_core.specs.History.{pasts_of}
use Rattle.version_core.specs.RefIndex.{AreKept, StayIndexed}
use Rattle.version_core.proofs.KeptLemmas.{all_kept, kept_stay}
use Rattle.version_core.proofs.ref_runs.sweep.Goals as goal

pub returns-clause-stay : goal.returns-clause-stay
returns-clause-stay c =
    let pasts = pasts_of c.args.histories.now in
    subst (StayIndexed c.args.oldest pasts c.args.runs.now.items) (sym c.keep_all.ensures) (kept_stay c.args.oldest pasts c.requires c.args.runs.now.items)

pub returns-clause-kept : goal.returns-clause-kept
returns-clause-kept c = λ _.
    let pasts = pasts_of c.args.histories.now in
    subst (AreKept c.args.oldest pasts) (sym c.keep_all.ensures) (all_kept c.args.oldest pasts c.requires c.args.runs.now.items)
