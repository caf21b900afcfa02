use Rattle.std.proofs.Common.{refl}
use Rattle.std.proofs.lemmas.List.{drop-drop}
use Rattle.outside_ports.proofs.mem_source.MemSource.pass_cut.Goals as goal

pub returns-then-self-len : goal.returns-then-self-len
returns-then-self-len c =
    rw (← c.self.view_is, drop-drop 1 c.self.inside.cuts_made c.self.inside.cuts.items) refl
