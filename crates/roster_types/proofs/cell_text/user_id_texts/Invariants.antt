use Rattle.std.proofs.Common.{◌≡◌, map, string_bytes, take}
use Rattle.roster_values.specs.CellText.{user_id_text}
use Rattle.roster_types.proofs.cell_text.user_id_texts.Given as goal

abbrev pub invariant-loop-id : goal.invariant-loop-id
invariant-loop-id l = map string_bytes l.texts.items ≡ map user_id_text (take l.id-index l.ids)
