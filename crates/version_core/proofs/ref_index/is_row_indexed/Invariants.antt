use Rattle.std.proofs.Common.{◌<◌, ℕ, get_or}
use Rattle.roster_values.specs.declared.fields.FieldInfo.{FieldInfo}
use Rattle.version_core.specs.RefIndex.{IsNameIndexed}
use Rattle.version_core.proofs.ref_index.is_row_indexed.Given as goal

-- entries say all that the fields so far name
abbrev pub invariant-loop-info : goal.invariant-loop-info
invariant-loop-info l = (k : ℕ) (d : FieldInfo) → k < l.info-index → IsNameIndexed l.runs l.row (get_or l.infos k d).name.now
