use Rattle.std.proofs.Common.{◌≡◌, map, take}
use Rattle.roster_types.proofs.cell_text.lent_texts.Given as goal

abbrev pub invariant-loop-text : goal.invariant-loop-text
invariant-loop-text l = map (λ s. s.now) l.lent.items ≡ take l.text-index l.texts
