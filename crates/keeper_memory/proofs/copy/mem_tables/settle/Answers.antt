use Rattle.std.proofs.Common.{arith, ◌≡◌, ◌++◌, ◌∙◌, List, take, drop, ap, subst, sym}
use Rattle.keeper_memory.specs.copy.Changes.{settled_first}
use Rattle.keeper_memory.specs.declared.copy.entry.OutEntry.{OutEntry}
use Rattle.keeper_memory.proofs.ListLemmas.{open_there, settled_set}
use Rattle.keeper_memory.proofs.copy.mem_tables.settle.Goals as goal

pub returns-then-is_none : goal.returns-then-is_none
returns-then-is_none c =
    settled_set c.args.settled c.loop-place.entries c.loop-place.place c.index-entries-place-then-is_none.result (omega (arith, c.loop-place-test.true, c.loop-place.auto.entries))
    (subst (λ (es : List OutEntry). settled_first c.args.settled es ≡ take c.loop-place.place es ++ settled_first c.args.settled (drop c.loop-place.place es)) (sym c.loop-place.invariant.same) c.loop-place.invariant.before)
    (open_there c.loop-place.entries c.loop-place.place c.index-entries-place.result _ c.is_none.result (omega (arith, c.loop-place-test.true, c.loop-place.auto.entries)) c.is_none.ensures c.if-is_none.true)
    ∙ ap (settled_first c.args.settled) c.loop-place.invariant.same
