use Rattle.serde_json.specs.View.{members_view}
use Rattle.row_json.specs.Reading.{entries_in}
use Rattle.row_json.proofs.MetadataSteps.{Gathers}
use Rattle.row_json.proofs.read.read_entries.Given as goal

abbrev pub invariant-loop-name : goal.invariant-loop-name
invariant-loop-name l = Gathers (entries_in (members_view l.members.entries)) l.metadata l.name-iterator
