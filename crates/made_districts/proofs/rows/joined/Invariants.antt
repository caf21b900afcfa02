use Rattle.std.proofs.Common.{◌≡◌, map, string_bytes, take}
use Rattle.made_districts.specs.Districts.{joined}
use Rattle.made_districts.proofs.rows.joined.Given as goal

abbrev pub invariant-loop-piece : goal.invariant-loop-piece
invariant-loop-piece l = string_bytes l.text ≡ joined (map (λ p. p.now) (take l.piece-index l.pieces))
