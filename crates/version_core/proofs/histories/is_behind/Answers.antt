use Rattle.roster_values.specs.Kinds.{place_of_kind}
use Rattle.std.proofs.Common.{◌-◌, List, ℕ, Option, option_copied, sym, ap, subst, arith}
use Rattle.version_core.specs.History.{IsGap}
use Rattle.version_core.proofs.HistoryLemmas.{Ascends-histories}
use Rattle.version_core.proofs.HistoryNext.{gap_behind}
use Rattle.version_core.proofs.histories.is_behind.Goals as goal

pub returns : goal.returns
returns c = λ yes.
    let histories = c.args.histories.now in
    let place = place_of_kind c.args.kind in
    subst (λ (after : Option (List ℕ)). IsGap place after histories c.args.place) (sym (ap option_copied c.in-Some.is)) (
    gap_behind place c.in-Some.after.now histories (c.args.place - 1) c.args.place (Ascends-histories histories c.requires.ascend) (omega arith) (c.is_at.ensures yes))
