use Rattle.std.proofs.Common.{sym, subst}
use Rattle.keeper_sqlite.specs.hub.Keeping.{KeepOrNew}
use Rattle.store_laws.proofs.stored.reopen_hub.Goals as goal

pub returns : goal.returns
returns g c sure keeps state tells clean =
    let kept = c.connection_of_hub.ensures sure state tells in
    let here = rw c.hub_over.ensures.connection at clean in
    c.hub_over.ensures.tells (here, c.in_ok-connection.ensures.is_open here) state (record {
      items = kept.items;
      stands = c.in_ok-connection.ensures.same kept.items kept.stands;
      kept = subst (λ keep. KeepOrNew keep kept.items state) (sym keeps) kept.kept;
    })
