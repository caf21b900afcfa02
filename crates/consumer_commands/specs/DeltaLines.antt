-- The line and the status of an incremental synchronisation's answer.
use Rattle.std.specs.Prelude.{ℕ, ◌++◌, List, codes, decimal}
use Rattle.hub_words.specs.Statuses.{base_gone_status, no_base_status}
use Rattle.consumer_commands.specs.SyncLines.{sync_status, sync_text}
use Rattle.consumer_deltas.specs.declared.answer.DeltaAnswer.{DeltaAnswer}
use Rattle.consumer_deltas.specs.declared.answer.DeltaAnswer.TheVariants.{BaseGone, Ended, NoBase}

-- the status of the process after an incremental synchronisation
abbrev pub delta_status : DeltaAnswer → ℕ
delta_status (Ended answer) = sync_status answer
delta_status NoBase = no_base_status
delta_status (BaseGone held oldest) = base_gone_status

-- the line that tells how it ended
unfoldable pub delta_text : DeltaAnswer → List ℕ
delta_text (Ended answer) = sync_text answer
delta_text NoBase = codes "no base\n"
delta_text (BaseGone held oldest) = codes "base gone " ++ decimal held ++ codes " " ++ decimal oldest ++ codes "\n"
