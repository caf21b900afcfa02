use Rattle.std.proofs.Common.{◌≡◌, ◌∙◌, ap, subst, sym, true, List, Some}
use Rattle.std.specs.List.{All}
use Rattle.consumer_sync.specs.Judging.{opened, paged}
use Rattle.consumer_sync.specs.Staging.{Adds}
use Rattle.exchange_link.specs.Places.{last_of}
use Rattle.keeper_memory.specs.copy.Lists.{ascends}
use Rattle.roster_types.specs.Records.{Record}
use Rattle.consumer_deltas.proofs.staged.stage_page.Goals as goal

pub take_page-requires-clause-kinds : goal.take_page-requires-clause-kinds
take_page-requires-clause-kinds g c = subst (λ (rows : List Record). All (λ (row : Record). row.kind ≡ c.args.list.kind) rows) (sym c.in-Ok.ensures) c.requires.kinds

pub take_page-requires-clause-ascend : goal.take_page-requires-clause-ascend
take_page-requires-clause-ascend g c = subst (λ (rows : List Record). ascends (last_of c.args.stage.now) rows ≡ true) (sym c.in-Ok.ensures) c.requires.ascend

pub returns-in-Ok-clause-on : goal.returns-in-Ok-clause-on
returns-in-Ok-clause-on g c e =
    c.take_page.ensures.on e ∙ ap (λ (rows : List Record). Some (paged (opened c.args.stage.now c.args.list.pin c.args.list.token.now) rows c.args.list.total c.args.done)) c.in-Ok.ensures

pub returns-in-Ok-clause-told : goal.returns-in-Ok-clause-told
returns-in-Ok-clause-told g c after stands =
    let x = c.take_page.ensures.told after stands in
    (x.0, x.1, subst (λ (rows : List Record). Adds (record { pin = c.args.list.pin; rows = rows; total = c.args.list.total; done = c.args.done }) c.args.list.token.now c.take_page.result x.0 after) c.in-Ok.ensures x.2)
