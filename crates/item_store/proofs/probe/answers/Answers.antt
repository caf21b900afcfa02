use Rattle.std.proofs.Common.{inl, inr, refl, []}
use Rattle.sqlite.specs.Held.{state}
use Rattle.item_store.specs.Table.{no_text}
use Rattle.item_store.proofs.Lasting.{clean_before, lasts_by, nothing_ran}
use Rattle.item_store.proofs.Leaving.{nothing_commits}
use Rattle.item_store.proofs.States.{execute_stops, ran_open, stands_stops}
use Rattle.item_store.proofs.probe.answers.Goals as goal

pub returns-in_err-execute-clause-same : goal.returns-in_err-execute-clause-same
returns-in_err-execute-clause-same g c m =
    let old = state g.S.Store c.args.conn.now in
    let new = state g.S.Store c.execute.new.self in
    let earlier = clean_before c.execute.ensures.survives in
    stands_stops old new m earlier (λ clean. execute_stops no_text [] old new _ (c.in_err-execute.ensures.runs clean))

pub returns-clause-same : goal.returns-clause-same
returns-clause-same g c m =
    let old = state g.S.Store c.args.conn.now in
    let new = state g.S.Store c.execute.new.self in
    let earlier = clean_before c.execute.ensures.survives in
    stands_stops old new m earlier (λ clean. inl (nothing_ran old new _ (c.in_ok-execute.ensures.runs clean)))

pub returns-clause-live : goal.returns-clause-live
returns-clause-live g c clean =
    let same = nothing_ran (state g.S.Store c.args.conn.now) (state g.S.Store c.execute.new.self) _ (c.in_ok-execute.ensures.runs clean) in (same.0.was_open, same.0.is_open)

pub returns-in_err-execute-clause-left : goal.returns-in_err-execute-clause-left
returns-in_err-execute-clause-left g c clean db may = elim (c.execute.ensures.survives.crash clean db may) [ inl was ↦ was | inr by ↦ absurd (nothing_commits (state g.S.Store c.args.conn.now) db by) ]

pub returns-clause-left : goal.returns-clause-left
returns-clause-left g c clean db may = elim (c.execute.ensures.survives.crash clean db may) [ inl was ↦ was | inr by ↦ absurd (nothing_commits (state g.S.Store c.args.conn.now) db by) ]

pub returns-clause-asks : goal.returns-clause-asks
returns-clause-asks g c clean = (no_text, inr (inr (inr (inr (inr (inr (inl refl)))))), [], inl (_, c.in_ok-execute.ensures.runs clean))

pub returns-in_err-execute-clause-was_open : goal.returns-in_err-execute-clause-was_open
returns-in_err-execute-clause-was_open g c clean live = ran_open no_text [] (state g.S.Store c.args.conn.now) (state g.S.Store c.execute.new.self) _ (c.in_err-execute.ensures.runs clean) live

pub returns-clause-was_open : goal.returns-clause-was_open
returns-clause-was_open g c clean live = ran_open no_text [] (state g.S.Store c.args.conn.now) (state g.S.Store c.execute.new.self) _ (c.in_ok-execute.ensures.runs clean) live

pub returns-in_err-execute-clause-lasts : goal.returns-in_err-execute-clause-lasts
returns-in_err-execute-clause-lasts g c = lasts_by (state g.S.Store c.args.conn.now) (state g.S.Store c.execute.new.self) _ c.execute.ensures.survives

pub returns-clause-lasts : goal.returns-clause-lasts
returns-clause-lasts g c = lasts_by (state g.S.Store c.args.conn.now) (state g.S.Store c.execute.new.self) _ c.execute.ensures.survives
