use Rattle.std.proofs.Common.{◌≡◌, map, take}
use Rattle.roster_types.proofs.cell_text.lent_ids.Given as goal

abbrev pub invariant-loop-id : goal.invariant-loop-id
invariant-loop-id l = map (λ s. s.now) l.lent.items ≡ take l.id-index l.ids
