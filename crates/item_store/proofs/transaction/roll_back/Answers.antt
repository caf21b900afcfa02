use Rattle.std.proofs.Common.{◌≡◌, Bool, true, false, not, [], inl, inr, refl}
use Rattle.sqlite.specs.Held.{state}
use Rattle.item_store.specs.Table.{rollback_text}
use Rattle.item_store.proofs.States.{rollback_stands, ran_open}
use Rattle.item_store.proofs.Leaving.{back_commits}
use Rattle.item_store.proofs.Lasting.{clean_before, lasts_by}
use Rattle.item_store.proofs.transaction.roll_back.Goals as goal

from_not : (b r : Bool) → r ≡ not b → r ≡ false → b ≡ true
from_not true r e f = refl
from_not false r e f = let x : r ≡ true = e in cc

pub returns-then-not-is_autocommit-clause-back : goal.returns-then-not-is_autocommit-clause-back
returns-then-not-is_autocommit-clause-back g c base h =
    let old = state g.S.Store c.args.conn.now in
    let new = state g.S.Store c.execute.new.self in
    let earlier = clean_before c.execute.ensures.survives in
    let inside : old.in_transaction ≡ true = from_not c.args.conn.now.in_transaction c.is_autocommit.result c.is_autocommit.ensures.value c.if-not-is_autocommit.true in
    rollback_stands old new base c.execute.result earlier inside c.execute.ensures.runs (λ clean. ran_open rollback_text [] old new c.execute.result (c.execute.ensures.runs clean)) h

pub returns-then-not-is_autocommit-clause-left : goal.returns-then-not-is_autocommit-clause-left
returns-then-not-is_autocommit-clause-left g c base h clean live db may =
    let old = state g.S.Store c.args.conn.now in
    let new = state g.S.Store c.execute.new.self in
    let earlier = clean_before c.execute.ensures.survives in
    let inside : old.in_transaction ≡ true = from_not c.args.conn.now.in_transaction c.is_autocommit.result c.is_autocommit.ensures.value c.if-not-is_autocommit.true in
    elim live [
      | inl open_now ↦ elim (c.execute.ensures.survives.crash clean db may) [ inl was ↦ was | inr by ↦ absurd (back_commits old new earlier base h inside clean open_now db by) ]
      | inr outside ↦ absurd (cc)
    ]

pub returns-then-not-is_autocommit-clause-was_open : goal.returns-then-not-is_autocommit-clause-was_open
returns-then-not-is_autocommit-clause-was_open g c clean live = ran_open rollback_text [] (state g.S.Store c.args.conn.now) (state g.S.Store c.execute.new.self) c.execute.result (c.execute.ensures.runs clean) live

pub returns-then-not-is_autocommit-clause-lasts : goal.returns-then-not-is_autocommit-clause-lasts
returns-then-not-is_autocommit-clause-lasts g c = lasts_by (state g.S.Store c.args.conn.now) (state g.S.Store c.execute.new.self) _ c.execute.ensures.survives

pub returns-then-not-is_autocommit-clause-outside : goal.returns-then-not-is_autocommit-clause-outside
returns-then-not-is_autocommit-clause-outside g c outside =
    absurd (let inside = from_not c.args.conn.now.in_transaction c.is_autocommit.result c.is_autocommit.ensures.value c.if-not-is_autocommit.true in cc)
