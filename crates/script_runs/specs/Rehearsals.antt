-- What `rehearse` answers: what a run of its script prints.
use Rattle.std.specs.Prelude.{◌≡◌, ◌≤◌, ◌⊎◌, ⊤, ℕ, List, [], Option, Some, None, Ok, Err, length}
use Rattle.hub_commands.specs.AskAnswers.{IsBytesOf}
use Rattle.hub_commands.specs.Outside.{Faults, HaveRisen, HaveStood}
use Rattle.hub_commands.specs.declared.answer.End.{End}
use Rattle.hub_commands.specs.declared.answer.End.TheVariants.{Done, FileTooLarge, FolderFailed, MissingFile, NoMemory}
use Rattle.hub_commands.specs.declared.answer.End.TheVariants.{ScriptRefused}
use Rattle.outside_ports.specs.Files.{Stored}
use Rattle.script_runs.specs.Runs.{RunsFirst, printed}
use Rattle.script_runs.specs.declared.run.ScriptEnd.{ScriptEnd}
use Rattle.script_runs.specs.declared.run.ScriptEnd.TheVariants as end
use Rattle.world_scripts.specs.Scripts.{script_of}
use Rattle.world_scripts.specs.declared.script.Line.{Line}

-- the file in the root folder has the text of these lines
abbrev pub IsScriptOf : Option (List Stored) → List ℕ → List Line → Type 0
IsScriptOf files file lines = (bytes : List ℕ) × IsBytesOf files file (Ok bytes) × (script_of bytes ≡ Ok lines)

-- what a run over the first lines prints
abbrev pub PrintsFirst : Option (List Stored) → List Line → List ℕ → Type 0
PrintsFirst files lines done = (count : ℕ) × (count ≤ length lines) × (run : RunsFirst files lines count) × (done ≡ printed run.stages)

-- how a run ends, and what is printed before its line: a run over all lines, or over those before the one at which the
-- folder failed or memory ran out
abbrev pub RunEnds : Option (List Stored) → Faults → List Line → List ℕ → End → Type 0
RunEnds files folder lines done Done = (run : RunsFirst files lines (length lines)) × (done ≡ printed run.stages) × HaveStood folder
RunEnds files folder lines done FolderFailed = PrintsFirst files lines done × HaveRisen folder
RunEnds files folder lines done NoMemory = PrintsFirst files lines done
RunEnds files folder lines done _ = ⊥

-- how no line comes to be run: the file isn't there, has too many bytes or is no script, the folder fails, or memory
-- runs out
abbrev pub StopsRehearsing : Option (List Stored) → Faults → List ℕ → End → Type 0
StopsRehearsing files folder file (MissingFile name) = IsBytesOf files file (Err (MissingFile name)) × HaveStood folder
StopsRehearsing files folder file (FileTooLarge name) = IsBytesOf files file (Err (FileTooLarge name)) × HaveStood folder
StopsRehearsing files folder file (ScriptRefused line) = (bytes : List ℕ) × IsBytesOf files file (Ok bytes) × (script_of bytes ≡ Err line) × HaveStood folder
StopsRehearsing files folder file FolderFailed = HaveRisen folder
StopsRehearsing files folder file NoMemory = ⊤
StopsRehearsing files folder file _ = ⊥

-- no line was run, or the file is a script, and its run ended so
abbrev pub IsRehearseAnswer : Option (List Stored) → Faults → List ℕ → List ℕ → End → Type 0
IsRehearseAnswer files folder file done end =
    ((done ≡ []) × StopsRehearsing files folder file end) ⊎ ((lines : List Line) × IsScriptOf files file lines × RunEnds files folder lines done end)

-- ---- what the steps give

-- what is answered once the bytes of the file are read
abbrev pub RehearsesBytes : Option (List Stored) → Faults → List ℕ → List ℕ → End → Type 0
RehearsesBytes files folder bytes done (ScriptRefused line) = (done ≡ []) × (script_of bytes ≡ Err line) × HaveStood folder
RehearsesBytes files folder bytes done NoMemory = (done ≡ []) ⊎ ((lines : List Line) × (script_of bytes ≡ Ok lines) × PrintsFirst files lines done)
RehearsesBytes files folder bytes done end = (lines : List Line) × (script_of bytes ≡ Ok lines) × RunEnds files folder lines done end

-- the end that a script's end brings; none where the sink failed
abbrev pub end_in : ScriptEnd → Option End
end_in end.Done = Some Done
end_in end.Folder = Some FolderFailed
end_in end.NoMemory = Some NoMemory
end_in end.Sink = None
