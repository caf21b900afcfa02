-- What a line of a script makes of a world, and what it prints.
use Rattle.std.specs.Prelude.{◌≡◌, ◌≢◌, ◌⊎◌, ⊤, ℕ, List, [], ◌++◌, Option, Some, Result, Ok, Err, String, codes}
use Rattle.std.specs.Prelude.{decimal, string_bytes}
use Rattle.std.specs.Global.{Global}
use Rattle.std.specs.List.{flat_map}
use Rattle.exchange_link.specs.Between.{CopyRun, LinkRun, copy_run, link_between}
use Rattle.hub_commands.specs.Below.Held.{listed_text}
use Rattle.hub_commands.specs.Below.SendLines.{enter_text, entered_text, entry_text, send_text}
use Rattle.hub_commands.specs.Below.Sends.{AgreedAll, IsEnterOf, IsSendOf}
use Rattle.hub_commands.specs.Below.SyncLines.{sync_text}
use Rattle.hub_commands.specs.Below.Syncs.{IsSyncOf}
use Rattle.exchange_link.specs.Exchanges.{LinkState}
use Rattle.exchange_link.specs.Marks.{Agree}
use Rattle.exchange_link.specs.Synchronised.{held_at}
use Rattle.exchange_link.specs.declared.answer.SyncAnswer.{SyncAnswer}
use Rattle.exchange_link.specs.declared.answer.SyncAnswer.TheVariants as sync
use Rattle.exchange_link.specs.declared.send_answer.EnterError.{EnterError}
use Rattle.exchange_link.specs.declared.send_answer.EnterError.TheVariants as enter
use Rattle.exchange_link.specs.declared.send_answer.SendAnswer.{SendAnswer}
use Rattle.exchange_link.specs.declared.send_answer.SendAnswer.TheVariants as send
use Rattle.hub_commands.specs.Answers.{end_text}
use Rattle.hub_commands.specs.Lines.{copy_failed}
use Rattle.hub_commands.specs.OutboxAnswers.{IsWriteOf}
use Rattle.hub_commands.specs.declared.answer.End.{End}
use Rattle.hub_words.specs.Tasks.{Sending, Task}
use Rattle.hub_words.specs.declared.words.EnterTask.{EnterTask}
use Rattle.hub_spec.specs.rules.States.{IsHub}
use Rattle.keeper_memory.specs.Calls.{CallsLead}
use Rattle.keeper_memory.specs.Failures.{with_listed}
use Rattle.keeper_memory.specs.copy.Copies.{Copy, IsCopy, held_list}
use Rattle.keeper_memory.specs.copy.HeldCopy.{HeldCopy}
use Rattle.outside_ports.specs.Files.{Stored}
use Rattle.roster_base.specs.Faults.{Rose}
use Rattle.roster_base.specs.declared.keeper.KeeperError.{KeeperError}
use Rattle.roster_base.specs.declared.keeper.KeeperError.TheVariants as keeper
use Rattle.script_runs.specs.Acting.{IsActOf}
use Rattle.script_runs.specs.Sayings.{said_text}
use Rattle.script_runs.specs.declared.play.Play.{Play}
use Rattle.sync_world.specs.Acts.{Acted, IsAct}
use Rattle.sync_world.specs.Links.{HeldLink, link_state, with_event, with_failure, with_fate, world_of}
use Rattle.sync_world.specs.Traffic.{Rounds}
use Rattle.sync_world.specs.declared.acts.HubAct.{HubAct}
use Rattle.sync_world.specs.declared.traffic.Fate.TheVariants as fate
use Rattle.sync_world.specs.declared.traffic.Happening.TheVariants as happening
use Rattle.version_core.specs.HubStates.{HubState}
use Rattle.version_core.specs.declared.mark.Write.{Write}
use Rattle.world_scripts.specs.declared.script.HubLine.{HubLine}
use Rattle.world_scripts.specs.declared.script.Line.{Line}
use Rattle.world_scripts.specs.declared.script.Line.TheVariants as line

-- the hub is one, the copy is one, and they agree on the stage, on the marks and on what was sent
pub record Sound (world : Play) : Type 0 where
  pub hub : IsHub world.link.hub
  pub copy : IsCopy world.copy.copy
  pub agree : Agree world.copy.copy (link_state world.link)

-- ---- lines that only plan, and print nothing

-- only the link changes, into this one
abbrev pub BecomesLink : HeldLink → Play → Play → List ℕ → Type 0
BecomesLink link old new text = (new ≡ record old { link = link }) × (text ≡ [])

-- only the copy changes, into this one
abbrev pub BecomesCopy : HeldCopy → Play → Play → List ℕ → Type 0
BecomesCopy copy old new text = (new ≡ record old { copy = copy }) × (text ≡ [])

-- ---- what others do

-- the link once what is told of what others did was printed
abbrev pub said_taken : HeldLink → HeldLink
said_taken link = record link { said = [] }

-- an act is done to the hub of a link, and told; all else of the link is as before
abbrev pub IsActed : HubAct → HeldLink → HeldLink → Type 0
IsActed act old new =
    Acted (IsAct act old.clock) (world_of old) (world_of new) old.said new.said
    × (new ≡ record old { hub = new.hub; hub_faults = new.hub_faults; plan = new.plan; said = new.said })

-- an act is done now, and what is told of it is printed
abbrev pub ActStep : HubAct → Play → Play → List ℕ → Type 0
ActStep act old new text = (mid : HeldLink) × IsActed act old.link mid × (new ≡ record old { link = said_taken mid }) × (text ≡ said_text mid.said)

-- what a line says is done to the hub now, by the files as they are
abbrev pub HubStep : Option (List Stored) → HubLine → Play → Play → List ℕ → Type 0
HubStep files l old new text = (act : HubAct) × IsActOf files l act × ActStep act old new text

-- what a line says is to be done to the hub just before an exchange, by the files as they are now
abbrev pub AtStep : Option (List Stored) → ℕ → HubLine → Play → Play → List ℕ → Type 0
AtStep files exchange l old new text = (act : HubAct) × IsActOf files l act × BecomesLink (with_event exchange (happening.Act act) old.link) old new text

-- ---- the consumer

-- what was done to the copy
abbrev pub copies_between : HeldCopy → HeldCopy → CopyRun
copies_between old new = copy_run (λ c. (c ≡ old.copy) × IsCopy c) (λ c. (c ≡ new.copy) × IsCopy c) old.plan.faults new.plan.faults (new ≡ old)

-- what was done to the link
abbrev pub links_between : HeldLink → HeldLink → LinkRun
links_between =
    link_between (λ (link : HeldLink) (t : LinkState). (t ≡ link_state link) × IsHub t.hub) (λ (link : HeldLink). link.asked)
    (λ (link : HeldLink). link.missed) (λ (link : HeldLink). link.kept) (λ (link : HeldLink). link.faults)

-- what a synchronisation that is complete leaves: exactly that version of the hub, cut to what the token sees
abbrev pub IsExact : List ℕ → SyncAnswer → Copy → HubState → Type 0
IsExact token (sync.Complete version) copy hub = copy.held ≡ Some (held_at version token hub)
IsExact token a copy hub = ⊤

-- a synchronisation, of which all holds that is promised of one between a copy and a link that agree, by exchanges and
-- by calls of the copy's keeper, one behind another, none of which wanted memory: what others did at the exchanges is
-- printed, and then its line
pub record Synchronises (task : Task) (a : SyncAnswer) (old new : Play) (text : List ℕ) : Type 0 where
  pub mid : HeldLink
  pub other : a ≢ sync.NoMemory
  pub rounds : Rounds old.link mid
  pub calls : CallsLead old.copy.plan new.copy.plan
  pub agreed : AgreedAll (copies_between old.copy new.copy) (links_between old.link mid)
  pub is : IsSyncOf task a (copies_between old.copy new.copy) (links_between old.link mid)
  pub exact : IsExact task.token a new.copy.copy mid.hub
  pub link : new.link ≡ said_taken mid
  pub told : text ≡ said_text mid.said ++ sync_text a

-- a synchronisation, with some answer
abbrev pub SyncStep : Task → Play → Play → List ℕ → Type 0
SyncStep task old new text = (a : SyncAnswer) × Synchronises task a old new text

-- a sending of what waits, of which all holds that is promised of one between a copy and a link that agree, as of a
-- synchronisation
pub record Sends (task : Sending) (a : SendAnswer) (old new : Play) (text : List ℕ) : Type 0 where
  pub mid : HeldLink
  pub other : a ≢ send.NoMemory
  pub rounds : Rounds old.link mid
  pub calls : CallsLead old.copy.plan new.copy.plan
  pub agreed : AgreedAll (copies_between old.copy new.copy) (links_between old.link mid)
  pub is : IsSendOf task a (copies_between old.copy new.copy) (links_between old.link mid)
  pub link : new.link ≡ said_taken mid
  pub told : text ≡ said_text mid.said ++ send_text a

-- a sending, with some answer
abbrev pub SendStep : Sending → Play → Play → List ℕ → Type 0
SendStep task old new text = (a : SendAnswer) × Sends task a old new text

-- the line of a write that was entered, or why it wasn't
abbrev pub told_entered : Result ℕ EnterError → List ℕ
told_entered (Ok number) = entered_text number
told_entered (Err error) = enter_text error

-- a write is entered, or not
abbrev pub EntersWrite : Write → Play → Play → List ℕ → Type 0
EntersWrite write old new text =
    (r : Result ℕ EnterError) × (r ≢ Err enter.NoMemory) × CallsLead old.copy.plan new.copy.plan × IsEnterOf write r (copies_between old.copy new.copy)
    × (new.link ≡ old.link) × (text ≡ told_entered r)

-- the write of a task is entered, or not, or the file of its body is refused
abbrev pub EnterStep : Option (List Stored) → EnterTask → Play → Play → List ℕ → Type 0
EnterStep files task old new text =
    ((write : Write) × IsWriteOf files (Some old.link.clock) task (Ok write) × EntersWrite write old new text)
    ⊎ ((end : End) × IsWriteOf files (Some old.link.clock) task (Err end) × (new ≡ old) × (text ≡ end_text end))

-- the copy is read and printed, or its keeper failed
abbrev pub ReadStep : List ℕ → Play → Play → List ℕ → Type 0
ReadStep read old new text =
    (new.link ≡ old.link) × (new.copy.copy ≡ old.copy.copy) × CallsLead old.copy.plan new.copy.plan × ((text ≡ read) ⊎ ((text ≡ copy_failed) × Rose old.copy.plan.faults new.copy.plan.faults))

-- what was read is told, or that the copy's keeper failed
abbrev pub TellsRead : Result (String Global) KeeperError → List ℕ → Type 0
TellsRead (Ok read) text = text ≡ string_bytes read
TellsRead (Err keeper.Failed) text = text ≡ copy_failed
TellsRead (Err keeper.NoMemory) text = ⊥

-- the line that tells how many exchanges were made
abbrev pub exchanges_text : ℕ → List ℕ
exchanges_text asked = codes "exchanges " ++ decimal asked ++ codes "\n"

-- ---- one line

-- what a line makes of a world, over these files, and what it prints
abbrev pub LineStep : Option (List Stored) → Line → Play → Play → List ℕ → Type 0
LineStep files (line.Keep keep) old new text = (new ≡ old) × (text ≡ [])
LineStep files (line.Clock at) old new text = BecomesLink (record old.link { clock = at }) old new text
LineStep files (line.Hub l) old new text = HubStep files l old new text
LineStep files (line.At exchange l) old new text = AtStep files exchange l old new text
LineStep files (line.Sync task) old new text = SyncStep task old new text
LineStep files (line.Enter task) old new text = EnterStep files task old new text
LineStep files (line.Send task) old new text = SendStep task old new text
LineStep files line.Outbox old new text = ReadStep (flat_map entry_text old.copy.copy.entries) old new text
LineStep files (line.ListHeld kind) old new text = ReadStep (listed_text kind (held_list old.copy.copy kind)) old new text
LineStep files (line.LoseRequest exchange) old new text = BecomesLink (with_fate exchange fate.RequestLost old.link) old new text
LineStep files (line.LoseReply exchange) old new text = BecomesLink (with_fate exchange fate.ReplyLost old.link) old new text
LineStep files (line.Late request exchange) old new text = BecomesLink (with_event exchange (happening.Late request) old.link) old new text
LineStep files (line.Stale reply exchange) old new text = BecomesLink (with_fate exchange (fate.Stale reply) old.link) old new text
LineStep files (line.HubFails acted commit) old new text = BecomesLink (with_failure acted commit old.link) old new text
LineStep files (line.CopyFails acted commit) old new text = BecomesCopy (record old.copy { plan = with_listed acted commit old.copy.plan }) old new text
LineStep files line.Exchanges old new text = (new ≡ old) × (text ≡ exchanges_text old.link.asked)
