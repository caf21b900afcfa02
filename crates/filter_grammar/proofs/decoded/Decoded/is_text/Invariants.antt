use Rattle.std.proofs.Common.{◌≡◌}
use Rattle.std.specs.Str.{is_utf8}
use Rattle.filter_grammar.specs.Decoded.{decoded_left}
use Rattle.filter_grammar.proofs.decoded.Decoded.is_text.Given as goal

abbrev pub invariant-loop-first : goal.invariant-loop-first
invariant-loop-first l = record {
  goes : (goal.iterator-loop-first).can_next l.self × (goal.iterator-loop-first).is_finite l.self;
  same : is_utf8 (decoded_left l.fn.self) ≡ is_utf8 (decoded_left l.self);
}
