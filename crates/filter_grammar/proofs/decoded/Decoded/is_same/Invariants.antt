use Rattle.std.proofs.Common.{◌≡◌, bytes_eq}
use Rattle.filter_grammar.specs.Decoded.{decoded_left}
use Rattle.filter_grammar.proofs.decoded.Decoded.is_same.Given as goal

abbrev pub invariant-loop-byte : goal.invariant-loop-byte
invariant-loop-byte l = bytes_eq (decoded_left l.fn.self) l.text ≡ bytes_eq (decoded_left l.self) l.wanted
