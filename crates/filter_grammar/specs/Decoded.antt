-- What is left of a name or a value that is read byte by byte.
use Rattle.std.specs.Prelude.{ℕ, List}
use Rattle.filter_grammar.specs.declared.decoded.Decoded.{Decoded}
use Rattle.form_urlencoded.specs.Form as form

abbrev pub decoded_left : Decoded → List ℕ
decoded_left it = form.decode it.raw.now
