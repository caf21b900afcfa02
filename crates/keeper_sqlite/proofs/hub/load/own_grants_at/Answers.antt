use Rattle.std.proofs.Common.{Some, ap, sym, ◌∙◌}
use Rattle.hub_format.specs.Format.{some_grants}
use Rattle.keeper_sqlite.proofs.LoadLemmas.{own_none, own_some, some_fit}
use Rattle.keeper_sqlite.proofs.hub.load.own_grants_at.Goals as goal

pub returns-then-flag-eq0-clause-grants : goal.returns-then-flag-eq0-clause-grants
returns-then-flag-eq0-clause-grants g c m grants stands fits flags told sure = own_none c.args.flag grants flags c.if-flag-eq0.true

pub returns-clause-grants : goal.returns-clause-grants
returns-clause-grants g c m grants stands fits flags told sure =
    let there = own_some c.args.flag grants flags c.if-flag-eq0.false in
    ap Some (c.in_ok-grants.ensures.grants m there.0 stands (some_fit grants there.0 there.1 fits) (told ∙ ap (some_grants c.args.version) there.1) sure) ∙ sym there.1
