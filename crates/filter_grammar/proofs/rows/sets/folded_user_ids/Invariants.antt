use Rattle.std.proofs.Common.{◌≡◌, map, take}
use Rattle.filter_grammar.specs.rows.Filters.{folded}
use Rattle.roster_values.specs.CellText.{user_id_text}
use Rattle.filter_grammar.proofs.rows.sets.folded_user_ids.Given as goal

abbrev pub invariant-loop-id : goal.invariant-loop-id
invariant-loop-id l = l.items ≡ map folded (map user_id_text (take l.id-index l.ids))
