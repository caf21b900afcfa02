use Rattle.std.proofs.Common.{sym, subst}
use Rattle.keeper_memory.specs.copy.States.{CanBe}
use Rattle.keeper_memory.specs.declared.copy.state.CopyState.{CopyState}
use Rattle.keeper_memory.proofs.CopyLemmas.{few_if, state_is}
use Rattle.keeper_memory.proofs.copy.mem_copy.MemCopyCopyKeeper.state.Goals as goal

pub state-requires : goal.state-requires
state-requires c = few_if _ c.self.invariant.stage

pub returns-clause-any : goal.returns-clause-any
returns-clause-any c = subst (λ (s : CopyState). CanBe s) (sym c.in_ok-state.ensures) (state_is c.self.inside.tables c.self.invariant)
