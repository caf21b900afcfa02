use Rattle.keeper_sqlite.proofs.HoldingLemmas.{read_held, signs_by}
use Rattle.sqlite.specs.Held.{state}
use Rattle.keeper_sqlite.proofs.ranges.part_of.Goals as goal

pub returns-clause-items : goal.returns-clause-items
returns-clause-items g c m h sure = c.in_ok-items.ensures.items m h sure.0

pub returns-in_err-items-clause-held : goal.returns-in_err-items-clause-held
returns-in_err-items-clause-held g c =
    read_held (state g.S.Store c.args.store.now.connection) (state g.S.Store c.range.new.self.connection) c.range.ensures.honest (λ sure. (c.range.ensures.honest sure.0, c.range.ensures.was_open sure.0 sure.1))
    c.range.ensures.same c.range.ensures.found (λ n find down. (c.range.ensures.shut n find down).1)

pub returns-clause-held : goal.returns-clause-held
returns-clause-held g c =
    read_held (state g.S.Store c.args.store.now.connection) (state g.S.Store c.range.new.self.connection) c.range.ensures.honest (λ sure. (c.range.ensures.honest sure.0, c.range.ensures.was_open sure.0 sure.1))
    c.range.ensures.same c.range.ensures.found (λ n find down. (c.range.ensures.shut n find down).1)

pub returns-in_err-items-clause-signs : goal.returns-in_err-items-clause-signs
returns-in_err-items-clause-signs g c = signs_by (state g.S.Store c.args.store.now.connection) (state g.S.Store c.range.new.self.connection) c.range.ensures.honest c.range.ensures.lasts

pub returns-clause-signs : goal.returns-clause-signs
returns-clause-signs g c = signs_by (state g.S.Store c.args.store.now.connection) (state g.S.Store c.range.new.self.connection) c.range.ensures.honest c.range.ensures.lasts

pub returns-clause-live : goal.returns-clause-live
returns-clause-live g c clean = (clean, c.in_ok-items.ensures.live clean)
