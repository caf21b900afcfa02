use Rattle.std.proofs.Common.{List, sym, subst, ◌∙◌}
use Rattle.version_core.specs.Changes.{change_key}
use Rattle.version_core.specs.History.{AreUpTo, pasts_of, rows_at}
use Rattle.version_core.specs.Order.{overlaid}
use Rattle.version_core.specs.declared.history.History.{History}
use Rattle.version_core.proofs.RoomLemmas.{overlaid_none}
use Rattle.version_core.proofs.version_log.histories_of.Goals as goal

-- the rows put over none
pub returns : goal.returns
returns c =
    let put = c.put_rows.ensures.put in
    let none = c.in_ok-histories.ensures.items in
    let rows = c.in_ok-rows.ensures in
    record {
      pasts = put.pasts;
      rows = put.now ∙ (λ i. overlaid change_key (rows_at c.args.version (pasts_of (none i))) (rows i)) ∙ overlaid_none c.args.changes.now c.requires;
      up_to = put.up_to (subst (λ (hs : List History). AreUpTo c.args.version (pasts_of hs)) (sym none) tt);
    }
