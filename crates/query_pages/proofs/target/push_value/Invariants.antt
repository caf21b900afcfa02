use Rattle.std.proofs.Common.{◌≡◌, ◌++◌, string_bytes}
use Rattle.form_urlencoded.specs.Form.{byte_serialize}
use Rattle.form_urlencoded.specs.Serialize.{serialized_text}
use Rattle.query_pages.proofs.target.push_value.Given as goal

abbrev pub invariant-loop-piece : goal.invariant-loop-piece
invariant-loop-piece l = string_bytes l.text ++ serialized_text l.piece-iterator ≡ string_bytes l.fn.text ++ byte_serialize l.fn.value
