-- Runs of scripts: a world behind each line, and what the lines print.
use Rattle.std.specs.Prelude.{◌≡◌, ◌≤◌, ◌<◌, ⊤, ℕ, ℤ, List, [], ◌∷◌, Option, length, pos, take}
use Rattle.std.specs.Io.KnownBytes.{Appends}
use Rattle.std.specs.List.{flat_map}
use Rattle.hub_words.specs.Words.{usual_keep}
use Rattle.keeper_memory.specs.Calls.{CallsLead}
use Rattle.keeper_memory.specs.Failures.{planned}
use Rattle.keeper_memory.specs.copy.HeldCopy.{empty_copy}
use Rattle.outside_ports.specs.Files.{Stored}
use Rattle.outside_ports.specs.Written.{AppendsPart}
use Rattle.script_runs.specs.Plays.{LineStep, Sound}
use Rattle.script_runs.specs.declared.play.Play.{Play}
use Rattle.script_runs.specs.declared.run.ScriptEnd.{ScriptEnd}
use Rattle.script_runs.specs.declared.run.ScriptEnd.TheVariants as end
use Rattle.script_runs.specs.declared.sources.Stop.{Stop}
use Rattle.script_runs.specs.declared.sources.Stop.TheVariants as stop
use Rattle.sync_world.specs.Links.{fresh_link}
use Rattle.sync_world.specs.Worlds.{all_of}
use Rattle.version_core.specs.Version.{empty_version}
use Rattle.world_scripts.specs.declared.script.Line.{Line}
use Rattle.world_scripts.specs.declared.script.Line.TheVariants as line

-- ---- how a world begins

-- how many versions the hub of a script keeps beside the newest
abbrev pub keep_in : List Line → ℕ
keep_in (line.Keep keep ∷ lines) = keep
keep_in lines = usual_keep

-- 2024-08-01T12:00:00.000Z
abbrev pub first_moment : ℤ
first_moment = pos 1_722_513_600_000

-- an empty hub, which was opened from its keeper and to which nothing was sent, and an empty copy
pub record Opens (keep : ℕ) (world : Play) : Type 0 where
  pub link : world.link ≡ fresh_link first_moment (all_of (record { keep = keep; versions = empty_version ∷ []; marks = [] })) world.link.hub_faults world.link.plan
  pub calls : CallsLead (planned [] [] []) world.link.plan
  pub copy : world.copy ≡ record { copy = empty_copy; plan = planned [] [] [] }

-- ---- a run

-- the world behind a line, and what the line prints
pub record Stage : Type 0 where
  pub world : Play
  pub text : List ℕ

-- a world for each line, to which the line leads from the one before, and in which copy and hub agree
abbrev pub IsRun : Option (List Stored) → Play → List Line → List Stage → Type 0
IsRun files world [] [] = ⊤
IsRun files world (l ∷ lines) (stage ∷ stages) = LineStep files l world stage.world stage.text × Sound stage.world × IsRun files stage.world lines stages
IsRun files world lines stages = ⊥

-- what a run prints
abbrev pub printed : List Stage → List ℕ
printed stages = flat_map (λ (stage : Stage). stage.text) stages

-- a run over the first of these lines, which begins with an empty hub and an empty copy
pub record RunsFirst (files : Option (List Stored)) (lines : List Line) (count : ℕ) : Type 0 where
  pub begin : Play
  pub opens : Opens (keep_in lines) begin
  pub stages : List Stage
  pub run : IsRun files begin (take count lines) stages

-- ---- how a script ends

-- what is written by its end: what a run over all lines prints; what a run prints over the lines before that at which
-- the folder failed or memory ran out; and where the sink failed, a front of what a run over the first lines prints
abbrev pub Writes : Option (List Stored) → List Line → Option (List ℕ) → Option (List ℕ) → ScriptEnd → Type 0
Writes files lines old new end.Done = (run : RunsFirst files lines (length lines)) × Appends old new (printed run.stages)
Writes files lines old new end.Folder = (count : ℕ) × (count < length lines) × (run : RunsFirst files lines count) × Appends old new (printed run.stages)
Writes files lines old new end.NoMemory = (count : ℕ) × (count ≤ length lines) × (run : RunsFirst files lines count) × Appends old new (printed run.stages)
Writes files lines old new end.Sink = (count : ℕ) × (count ≤ length lines) × (run : RunsFirst files lines count) × AppendsPart old new (printed run.stages)

-- how a line ends the script
abbrev pub end_of : Stop → ScriptEnd
end_of stop.Folder = end.Folder
end_of stop.NoMemory = end.NoMemory
