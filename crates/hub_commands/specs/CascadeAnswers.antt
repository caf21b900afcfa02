-- What `cascade` answers: the rows that the copy holds, as those of a feed.
use Rattle.std.specs.Prelude.{◌≡◌, ◌⊎◌, ℤ, ℕ, List, [], Option, Result, Ok, Err}
use Rattle.exchange_link.specs.Between.{CopyRun}
use Rattle.hub_cascade.specs.Answers.{MakesCascade}
use Rattle.hub_cascade.specs.Held.{CascadesHeld, HoldNothing, HoldSomething}
use Rattle.hub_cascade.specs.declared.error.CascadeError.{CascadeError}
use Rattle.hub_cascade.specs.declared.error.CascadeError.TheVariants as error
use Rattle.hub_core.specs.declared.published.Published.{Published}
use Rattle.keeper_memory.specs.Kept.{KeptState}
use Rattle.rest_provider.specs.Moments.{IsMomentOf}
use Rattle.roster_base.specs.Faults.{Rose}
use Rattle.hub_commands.specs.ConsumerAnswers.{CopyStays}
use Rattle.hub_commands.specs.declared.answer.Answer.{Answer}
use Rattle.hub_commands.specs.declared.answer.End.{End}
use Rattle.hub_commands.specs.declared.answer.End.TheVariants.{CopyFailed, Done, HubFailed, NoMemory, NothingHeld}
use Rattle.hub_commands.specs.declared.answer.End.TheVariants.{NotPublished}
use Rattle.hub_commands.specs.Outside.{Faults, HaveRisen, HaveStood}
use Rattle.hub_commands.specs.PublishAnswers.{told_text}

-- the end that an error brings
abbrev pub end_of_cascade : CascadeError → End
end_of_cascade error.HubKeeper = HubFailed
end_of_cascade error.CopyKeeper = CopyFailed
end_of_cascade error.NoMemory = NoMemory
end_of_cascade error.NothingHeld = NothingHeld
end_of_cascade (error.Refused fault) = NotPublished fault

-- what was made, or the end that an error brings
abbrev pub or_ended : Result Published CascadeError → Result Published End
or_ended (Ok published) = Ok published
or_ended (Err e) = Err (end_of_cascade e)

-- what is cascaded and over what: the feed, the clock's moment where it is told, the count of faults of the hub's keeper,
-- and the copy
pub record CascadeRun : Type 1 where
  pub feed : List ℕ
  pub moment : Option ℤ
  pub keeper : Faults
  pub copy : CopyRun

-- the same from its parts
abbrev pub cascade_run : List ℕ → Option ℤ → Faults → CopyRun → CascadeRun
cascade_run feed moment keeper copy = record { feed = feed; moment = moment; keeper = keeper; copy = copy }

-- what the hub makes of the rows that the copy holds
abbrev pub CascadesCopy : CascadeRun → Result Published CascadeError → KeptState → KeptState → Type 0
CascadesCopy run answer before after =
    (at : ℤ) × IsMomentOf run.moment at × MakesCascade (CascadesHeld run.copy.stands run.feed at) answer before after

-- how nothing is cascaded, or nothing is told of it: a keeper fails, the rows are refused, nothing is held, or memory
-- runs out, where they may be cascaded
abbrev pub StopsCascade : CascadeRun → End → KeptState → KeptState → Type 0
StopsCascade run HubFailed before after =
    HaveRisen run.keeper × ((after ≡ before) ⊎ CascadesCopy run (Err error.HubKeeper) before after)
StopsCascade run CopyFailed before after = Rose run.copy.faults_before run.copy.faults_now × (after ≡ before)
StopsCascade run (NotPublished fault) before after =
    HoldSomething run.copy.stands × HaveStood run.keeper × CascadesCopy run (Err (error.Refused fault)) before after
StopsCascade run NothingHeld before after = HoldNothing run.copy.stands × HaveStood run.keeper × (after ≡ before)
StopsCascade run NoMemory before after =
    (after ≡ before) ⊎ ((answer : Published) × CascadesCopy run (Ok answer) before after)
StopsCascade run end before after = ⊥

-- the line of the version that the rows lead to, or why there is none
abbrev pub TellsCascade : CascadeRun → List ℕ → End → KeptState → KeptState → Type 0
TellsCascade run done Done before after =
    HoldSomething run.copy.stands × HaveStood run.keeper
    × (answer : Published) × CascadesCopy run (Ok answer) before after × (done ≡ told_text run.feed answer)
TellsCascade run done end before after = (done ≡ []) × StopsCascade run end before after

-- the answer to `cascade`, which leaves the copy as it is
abbrev pub IsCascadeAnswer : CascadeRun → Answer → KeptState → KeptState → Type 0
IsCascadeAnswer run answer before after = CopyStays run.copy × TellsCascade run answer.done answer.end before after
