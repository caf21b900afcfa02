use Rattle.std.proofs.Common.{List, sym, subst}
use Rattle.keeper_memory.specs.copy.Lists.{IsList}
use Rattle.roster_types.specs.Records.{Record}
use Rattle.keeper_memory.proofs.CopyLemmas.{held_list_is}
use Rattle.keeper_memory.proofs.copy.mem_copy.MemCopyCopyKeeper.held.Goals as goal

pub returns-clause-any : goal.returns-clause-any
returns-clause-any c = subst (λ (rows : List Record). IsList c.args.kind rows) (sym c.in_ok-held.ensures) (held_list_is c.self.inside.tables c.args.kind c.self.invariant)
