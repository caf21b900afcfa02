use Rattle.std.proofs.Common.{◌≡◌, ℕ, Bool, true, false, List, None, Err, refl}
use Rattle.std.proofs.lemmas.Str.{IsUtf8-from_is_utf8, is_utf8-from_IsUtf8}
use Rattle.std.specs.Str.{IsUtf8, is_utf8}
use Rattle.serde_json.specs.Read.{read}
use Rattle.row_json.specs.declared.fault.JsonFault.TheVariants.{NotJson}
use Rattle.row_json.specs.Reading.{data_of}
use Rattle.row_json.proofs.read.read_data.Goals as goal

pub returns-in-Ok : goal.returns-in-Ok
unfolding data_of
returns-in-Ok c = rw (is_utf8-from_IsUtf8 c.args.bytes.now c.in-Ok.ensures.ok.0, c.in-Ok.ensures.ok.1) refl

refused : (bytes : List ℕ) (b : Bool) → is_utf8 bytes ≡ b → (IsUtf8 bytes → read bytes ≡ None) → data_of bytes ≡ Err NotJson
unfolding data_of
refused bytes true e h = rw (e, h (IsUtf8-from_is_utf8 bytes e)) refl
refused bytes false e h = rw e refl

pub returns-else-is_memory : goal.returns-else-is_memory
returns-else-is_memory c = refused c.args.bytes.now _ refl (c.in-Err.ensures.err (λ memory. absurd (cc (c.is_memory.ensures.1 memory, c.if-is_memory.false))))
