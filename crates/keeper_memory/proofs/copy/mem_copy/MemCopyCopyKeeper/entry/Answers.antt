use Rattle.std.proofs.Common.{sym, subst}
use Rattle.std.specs.Prelude.{IfSome, Option}
use Rattle.keeper_memory.specs.copy.States.{CanBeEntry}
use Rattle.keeper_memory.specs.declared.copy.entry.OutEntry.{OutEntry}
use Rattle.keeper_memory.proofs.CopyLemmas.{entry_is}
use Rattle.keeper_memory.proofs.copy.mem_copy.MemCopyCopyKeeper.entry.Goals as goal

pub returns-clause-any : goal.returns-clause-any
returns-clause-any c = subst (λ (o : Option OutEntry). IfSome o (CanBeEntry c.args.after)) (sym c.in_ok-entry.ensures) (entry_is c.self.inside.tables c.args.after c.self.invariant)
