-- What others are to do, by the files that a line names.
use Rattle.std.specs.Prelude.{◌≡◌, ◌≢◌, ⊤, ℕ, List, Option, Result, Ok, Err}
use Rattle.csv_sets.specs.declared.fault.SetFault.{SetFault}
use Rattle.hub_commands.specs.Answers.{end_text}
use Rattle.hub_commands.specs.AskAnswers.{IsBytesOf}
use Rattle.hub_commands.specs.GrantAnswers.{IsGrantsOf}
use Rattle.hub_commands.specs.Outside.{Faults, HaveRisen, HaveStood}
use Rattle.hub_commands.specs.PublishAnswers.{IsSetOf}
use Rattle.hub_commands.specs.declared.answer.End.{End}
use Rattle.hub_commands.specs.declared.answer.End.TheVariants.{FolderFailed, NoMemory, Refused}
use Rattle.outside_ports.specs.Files.{Stored}
use Rattle.script_runs.specs.declared.sources.Stop.{Stop}
use Rattle.script_runs.specs.declared.sources.Stop.TheVariants as stop
use Rattle.sync_world.specs.declared.acts.HubAct.{HubAct}
use Rattle.sync_world.specs.declared.acts.HubAct.TheVariants as act
use Rattle.world_scripts.specs.declared.script.HubLine.{HubLine}
use Rattle.world_scripts.specs.declared.script.HubLine.TheVariants as line

-- the act of a line over these files; where a file is refused, the act is to tell so
abbrev pub IsActOf : Option (List Stored) → HubLine → HubAct → Type 0
IsActOf files (line.Set feed) (act.Set name set) = IsSetOf files feed (Ok set) × (name ≡ feed.name)
IsActOf files (line.Set feed) (act.Tell lines) = (fault : SetFault) × IsSetOf files feed (Err fault) × (lines ≡ end_text (Refused fault))
IsActOf files (line.Grant file) (act.Grant list) = IsGrantsOf files file (Ok list)
IsActOf files (line.Grant file) (act.Tell lines) = (end : End) × IsGrantsOf files file (Err end) × (lines ≡ end_text end)
IsActOf files (line.Ask file) (act.Ask bytes) = IsBytesOf files file (Ok bytes)
IsActOf files (line.Ask file) (act.Tell lines) = (end : End) × IsBytesOf files file (Err end) × (lines ≡ end_text end)
IsActOf files line.Restart act.Restart = ⊤
IsActOf files l a = ⊥

-- ---- what the steps give

-- an end that a file brings is told, or it ends the script
abbrev pub Tells : {T : Type 0} → (List ℕ → T → Type 0) → End → Result T Stop → Type 0
Tells is end (Ok told) = is (end_text end) told × (end ≢ FolderFailed) × (end ≢ NoMemory)
Tells is end (Err stop.Folder) = end ≡ FolderFailed
Tells is end (Err stop.NoMemory) = ⊤

-- the act of a line, or how reading its files ends the script, and the folder's faults
abbrev pub ReadsAct : Option (List Stored) → Faults → HubLine → Result HubAct Stop → Type 0
ReadsAct files faults l (Ok a) = IsActOf files l a × HaveStood faults
ReadsAct files faults l (Err stop.Folder) = HaveRisen faults
ReadsAct files faults l (Err stop.NoMemory) = ⊤
