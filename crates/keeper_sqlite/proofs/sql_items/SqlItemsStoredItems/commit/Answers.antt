use Rattle.sqlite.specs.Held.{state}
use Rattle.keeper_sqlite.proofs.HoldingLemmas.{commit_made, known_behind, signs_by}
use Rattle.keeper_sqlite.proofs.sql_items.SqlItemsStoredItems.commit.Goals as goal

pub returns-clause-made : goal.returns-clause-made
returns-clause-made g c =
    let call = c.commit-ended.ensures in
    commit_made (state g.S.Store c.args.self.now.store.connection) (state g.S.Store c.commit-ended.new.self.connection) call.honest (λ sure. (call.honest sure.0, call.was_open sure.0 sure.1)) c.args.edits.now
    (λ n find down. (call.shut n find down).1) c.commit-ended.result c.args.self.now.lost c.is_lost-self.result c.is_lost-self.ensures call.live call.ok call.err call.found

pub returns-clause-signs : goal.returns-clause-signs
returns-clause-signs g c = signs_by (state g.S.Store c.args.self.now.store.connection) (state g.S.Store c.commit-ended.new.self.connection) c.commit-ended.ensures.honest c.commit-ended.ensures.lasts

pub returns-clause-known : goal.returns-clause-known
returns-clause-known g c = known_behind c.commit-ended.result c.args.self.now.lost c.is_lost-self.result c.is_lost-self.ensures
