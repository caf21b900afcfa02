use Rattle.std.proofs.Common.{ap}
use Rattle.keeper_memory.specs.copy.HeldCopy.{HeldCopy}
use Rattle.keeper_memory.proofs.CopyLemmas.{committed_is}
use Rattle.keeper_memory.proofs.copy.mem_copy.MemCopyCopyKeeper.commit.Goals as goal

pub invariant_of-self-2 : goal.invariant_of-self-2
invariant_of-self-2 c =
    committed_is c.args.change c.commit.result c.self.inside.tables _ c.commit.ensures.ok c.commit.ensures.err
    (c.requires c.self.inside.tables (ap (λ (h : HeldCopy). h.copy) c.self.view_is, c.self.invariant)) c.self.invariant
