use Rattle.std.proofs.Common.{◌∙◌, arith}
use Rattle.keeper_sqlite.specs.hub.Rows.{TellLater}
use Rattle.keeper_sqlite.proofs.ChangesLemmas.{found_all, found_kept, found_more}
use Rattle.keeper_sqlite.proofs.hub.load.changes_in.Goals as goal

pub loop-place-preserved : goal.loop-place-preserved
loop-place-preserved g c = record {
  same = λ m h. c.in_ok-change.ensures.same m (c.loop-place.invariant.same m h);
  trust = λ sure. c.loop-place.invariant.trust (c.in_ok-change.ensures.trust sure);
  held = λ n h. c.loop-place.invariant.held n (c.in_ok-change.ensures.held n h);
  signs = λ sign h. c.loop-place.invariant.signs sign (c.in_ok-change.ensures.signs sign h);
  faults = c.in_ok-change.ensures.cause ∙ c.loop-place.invariant.faults;
  found = λ t has bases sure.
      let m = has.tables.items in
      let stands = c.loop-place.invariant.same m has.tables.stands in
      found_more (g.S.StoredItems.stands_for c.args.store.now) (TellLater c.args.later.now) t has c.args.base c.loop-place.place c.loop-place.found.items _ c.in-Some.change bases (c.loop-place.invariant.found t has bases (c.in_ok-change.ensures.trust sure))
      c.in_ok-push_change.ensures (λ here. rw c.in-Some.is at (c.in_ok-change.ensures.change m here.change stands here.fits here.number here.own here.rows here.grants sure))
      (λ none. rw c.in-Some.is at (c.in_ok-change.ensures.none m stands none sure));
}

pub returns-in_default-clause-changes : goal.returns-in_default-clause-changes
returns-in_default-clause-changes g c t has bases keeps sure =
    let m = has.tables.items in
    let stands = c.loop-place.invariant.same m has.tables.stands in
    c.from_vec.ensures ∙ found_all (g.S.StoredItems.stands_for c.args.store.now) (TellLater c.args.later.now) t has c.args.base c.loop-place.place c.loop-place.found.items bases (c.loop-place.invariant.found t has bases (c.in_ok-change.ensures.trust sure))
    (λ here. rw c.in_default.is at (c.in_ok-change.ensures.change m here.change stands here.fits here.number here.own here.rows here.grants sure))

pub returns-clause-changes : goal.returns-clause-changes
returns-clause-changes g c t has bases keeps sure =
    c.from_vec-2.ensures
    ∙ found_kept (g.S.StoredItems.stands_for c.args.store.now) (TellLater c.args.later.now) t has c.args.keep c.loop-place.place c.loop-place.found.items keeps (c.loop-place.invariant.found t has bases sure) (omega (arith, c.loop-place-test.false))
