-- What the steps of `publish` give.
use Rattle.std.specs.Prelude.{⊤, List, Option, Result, Ok, Err}
use Rattle.csv_sets.specs.declared.fault.SetFault.{SetFault}
use Rattle.csv_sets.specs.declared.fault.SetFault.TheVariants.{Folder}
use Rattle.hub_core.specs.declared.hub_error.HubError.{HubError}
use Rattle.hub_core.specs.declared.hub_error.HubError.TheVariants as error
use Rattle.hub_core.specs.declared.published.Published.{Published}
use Rattle.keeper_memory.specs.Kept.{KeptState}
use Rattle.outside_ports.specs.Files.{Stored}
use Rattle.roster_types.specs.Sets.{SetRecord}
use Rattle.hub_commands.specs.Outside.{Faults, HaveRisen, HaveStood, NothingFailed, Outside}
use Rattle.hub_commands.specs.PublishAnswers.{IsSetOf, PublishesSet, StopsAt}
use Rattle.hub_commands.specs.declared.answer.End.{End}
use Rattle.hub_commands.specs.declared.answer.End.TheVariants.{FolderFailed, HubFailed, NoMemory, NotPublished, Refused}
use Rattle.hub_words.specs.declared.task.Feed.{Feed}

-- the end that a set's fault brings
abbrev pub end_of : SetFault → End
end_of Folder = FolderFailed
end_of fault = Refused fault

-- the end that a hub's error brings
abbrev pub end_of_error : HubError → End
end_of_error error.Keeper = HubFailed
end_of_error error.NoMemory = NoMemory
end_of_error (error.Refused fault) = NotPublished fault

-- the set of a feed, or the end that it brings, and the folder's faults
abbrev pub ReadsSet : Option (List Stored) → Faults → Feed → Result SetRecord End → Type 0
ReadsSet files faults feed (Ok set) = IsSetOf files feed (Ok set) × HaveStood faults
ReadsSet files faults feed (Err FolderFailed) = HaveRisen faults
ReadsSet files faults feed (Err (Refused fault)) = IsSetOf files feed (Err fault) × HaveStood faults
ReadsSet files faults feed (Err NoMemory) = ⊤
ReadsSet files faults feed (Err _) = ⊥

-- what the hub makes of the set of a feed, or how that ends
abbrev pub PublishesFeed : Outside → Feed → Result Published End → KeptState → KeptState → Type 0
PublishesFeed outside feed (Ok answer) before after = PublishesSet outside feed (Ok answer) before after × NothingFailed outside
PublishesFeed outside feed (Err end) before after = StopsAt outside feed end before after
