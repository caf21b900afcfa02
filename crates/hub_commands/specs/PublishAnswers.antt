-- What `publish` answers: one set after another, each applied to the newest version of the hub's state.
use Rattle.std.specs.Prelude.{◌≡◌, ◌≢◌, ◌⊎◌, ◌++◌, ℕ, ℤ, List, [], ◌∷◌, Option, Result, Ok, Err, IfSome}
use Rattle.csv_sets.specs.declared.fault.SetFault.{SetFault}
use Rattle.csv_sets.specs.declared.fault.SetFault.TheVariants.{Folder}
use Rattle.csv_sets.specs.Sets.{AreSpelled, set_of}
use Rattle.hub_core.specs.declared.hub_error.HubError.{HubError}
use Rattle.hub_core.specs.declared.hub_error.HubError.TheVariants as error
use Rattle.hub_core.specs.declared.published.Published.{Published}
use Rattle.hub_core.specs.declared.published.Published.TheVariants.{New, Same}
use Rattle.hub_core.specs.Steps.{MakesNext}
use Rattle.keeper_memory.specs.Kept.{KeptState}
use Rattle.outside_ports.specs.Files.{Stored}
use Rattle.roster_types.specs.Sets.{SetRecord}
use Rattle.version_changes.specs.sets.Applying.{Applies}
use Rattle.rest_provider.specs.Moments.{IsMomentOf}
use Rattle.hub_commands.specs.declared.answer.Answer.{Answer}
use Rattle.hub_commands.specs.declared.answer.End.{End}
use Rattle.hub_commands.specs.declared.answer.End.TheVariants.{Done, FolderFailed, HubFailed, NoMemory, NotPublished}
use Rattle.hub_commands.specs.declared.answer.End.TheVariants.{Refused}
use Rattle.hub_words.specs.declared.task.Feed.{Feed}
use Rattle.hub_commands.specs.Lines.{published_text, unchanged_text}
use Rattle.hub_commands.specs.Outside.{HaveRisen, NothingFailed, Outside}

-- the set that a feed's files mean, or its first fault; whatever the folder tells, some files mean it
abbrev pub IsSetOf : Option (List Stored) → Feed → Result SetRecord SetFault → Type 0
IsSetOf files feed (Ok set) = IfSome files (λ fs. set_of feed.dir feed.name fs ≡ Ok set) × (set.feed ≡ feed.name) × AreSpelled set.parts
IsSetOf files feed (Err fault) = IfSome files (λ fs. set_of feed.dir feed.name fs ≡ Err fault) × (fault ≢ Folder)

-- what the hub makes of the set of a feed
abbrev pub PublishesSet : Outside → Feed → Result Published HubError → KeptState → KeptState → Type 0
PublishesSet outside feed answer before after =
    (set : SetRecord) × (at : ℤ) × IsSetOf outside.files feed (Ok set) × IsMomentOf outside.moment at × MakesNext (λ version. Applies version set at) answer before after

-- how the first set of some feeds that isn't published, or isn't told, ends them; where memory runs out it may be
-- published
abbrev pub StopsAt : Outside → Feed → End → KeptState → KeptState → Type 0
StopsAt outside feed FolderFailed before after = HaveRisen outside.folder × (after ≡ before)
StopsAt outside feed HubFailed before after = HaveRisen outside.keeper × PublishesSet outside feed (Err error.Keeper) before after
StopsAt outside feed (Refused fault) before after = IsSetOf outside.files feed (Err fault) × NothingFailed outside × (after ≡ before)
StopsAt outside feed (NotPublished fault) before after = PublishesSet outside feed (Err (error.Refused fault)) before after × NothingFailed outside
StopsAt outside feed NoMemory before after = (after ≡ before) ⊎ ((answer : Published) × PublishesSet outside feed (Ok answer) before after)
StopsAt outside feed _ before after = ⊥

-- the line of what was made of a set of this name
abbrev pub told_text : List ℕ → Published → List ℕ
told_text name (New version) = published_text name version
told_text name (Same version) = unchanged_text name version

-- what is told of what was made under a name: the line of the version, or how it ended
abbrev pub IsTold : List ℕ → Result Published End → Answer → Type 0
IsTold name (Ok published) answer = ((answer.done ≡ told_text name published) × (answer.end ≡ Done)) ⊎ ((answer.done ≡ []) × (answer.end ≡ NoMemory))
IsTold name (Err end) answer = answer ≡ record { done = []; end = end }

-- the sets of feeds are published one after another up to the first that isn't; want of memory may end them anywhere
abbrev pub IsRunOf : Outside → List Feed → List ℕ → End → KeptState → KeptState → Type 0
IsRunOf outside [] done end before after =
    (done ≡ []) × (after ≡ before) × (((end ≡ Done) × NothingFailed outside) ⊎ (end ≡ NoMemory))
IsRunOf outside (feed ∷ feeds) done end before after =
    ((done ≡ []) × StopsAt outside feed end before after)
    ⊎ ((next : KeptState) × (answer : Published) × (more : List ℕ)
    × PublishesSet outside feed (Ok answer) before next × (done ≡ told_text feed.name answer ++ more) × IsRunOf outside feeds more end next after)
