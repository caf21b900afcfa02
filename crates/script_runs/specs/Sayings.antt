-- The lines that tell what others did.
use Rattle.std.specs.Prelude.{ℕ, ◌++◌, List, Option, Some, None, Result, Ok, Err, codes, decimal}
use Rattle.std.specs.List.{flat_map}
use Rattle.hub_commands.specs.Answers.{end_text}
use Rattle.hub_commands.specs.Lines.{hub_failed, request_text}
use Rattle.hub_commands.specs.PublishAnswers.{told_text}
use Rattle.hub_commands.specs.Steps.{end_of_error}
use Rattle.hub_core.specs.declared.hub_error.HubError.{HubError}
use Rattle.hub_core.specs.declared.published.Published.{Published}
use Rattle.sync_world.specs.Below.RequestFault.TheVariants.{AfterClose, Unreadable}
use Rattle.sync_world.specs.declared.acts.Saying.{Saying}
use Rattle.sync_world.specs.declared.acts.Saying.TheVariants as saying

-- what the hub made of a set of this name, or of grants
abbrev pub made_text : List ℕ → Result Published HubError → List ℕ
made_text name (Ok answer) = told_text name answer
made_text name (Err error) = end_text (end_of_error error)

-- the version, or `-` where there is none
abbrev pub version_text : Option ℕ → List ℕ
version_text None = codes "-"
version_text (Some version) = decimal version

-- the status of a reply, and the version that it names
unfoldable pub replied_text : ℕ → Option ℕ → List ℕ
replied_text status version = decimal status ++ codes " " ++ version_text version ++ codes "\n"

-- the lines of a saying
unfoldable pub saying_text : Saying → List ℕ
saying_text (saying.Published name answer) = made_text name answer
saying_text (saying.Granted answer) = made_text (codes "grants") answer
saying_text (saying.Replied status version) = replied_text status version
saying_text (saying.Stopped request fault) = request_text request (Unreadable fault)
saying_text (saying.AfterClose request) = request_text request AfterClose
saying_text (saying.Lines lines) = lines
saying_text saying.NotOpened = hub_failed

-- the lines that tell what others did
abbrev pub said_text : List Saying → List ℕ
said_text said = flat_map saying_text said
