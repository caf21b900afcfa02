use Rattle.std.proofs.Common.{sym, subst}
use Rattle.keeper_sqlite.specs.hub.Keeping.{KeepOrNew, Keeps}
use Rattle.keeper_sqlite.proofs.hub.item_hub.ItemHub.adopt.Goals as goal

pub returns-clause-tells : goal.returns-clause-tells
returns-clause-tells g c state sure this = record {
  first = record { state = state; this = subst (λ s. Keeps (KeepOrNew c.args.keep) (g.S.StoredItems.stands_for s) state) (sym c.of-origin.ensures) this };
  items = this.items;
  found = g.met.S.StoredItems.holds c.args.store this.items sure this.stands;
  kept = this.kept;
}
