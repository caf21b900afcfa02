-- What `make` answers: what comes of publishing, granting and copying a district of so many schools, in a world of its
-- own.
use Rattle.std.specs.Prelude.{◌≡◌, ◌≢◌, ◌++◌, ◌⊎◌, ℕ, List, [], Some, codes, decimal, length}
use Rattle.std.specs.List.{flat_map}
use Rattle.exchange_link.specs.declared.answer.SyncAnswer.{SyncAnswer}
use Rattle.exchange_link.specs.declared.answer.SyncAnswer.TheVariants.{KeeperFault}
use Rattle.hub_commands.specs.declared.answer.Answer.{Answer}
use Rattle.hub_commands.specs.declared.answer.End.{End}
use Rattle.hub_commands.specs.declared.answer.End.TheVariants.{NoMemory, Synced}
use Rattle.hub_words.specs.Tasks.{Task}
use Rattle.hub_words.specs.Words.{usual_keep}
use Rattle.hub_words.specs.declared.task.Feed.{Feed}
use Rattle.keeper_memory.specs.copy.Copies.{Copy, held_list, largest_limit}
use Rattle.made_districts.specs.Districts.{dir, made_files}
use Rattle.roster_values.specs.Kinds.{all_kinds, plural_of}
use Rattle.roster_values.specs.declared.kind.Kind.{Kind}
use Rattle.script_runs.specs.Plays.{HubStep, Synchronises, exchanges_text}
use Rattle.script_runs.specs.Runs.{Opens}
use Rattle.script_runs.specs.declared.play.Play.{Play}
use Rattle.world_scripts.specs.declared.script.HubLine.{HubLine}
use Rattle.world_scripts.specs.declared.script.HubLine.TheVariants as line

-- the feed whose set is the district
abbrev pub made_feed : Feed
made_feed = record { name = dir; dir = dir }

-- the line that publishes it
abbrev pub set_line : HubLine
set_line = line.Set made_feed

-- the line that grants what the district's file of grants asks for
abbrev pub grant_line : HubLine
grant_line = line.Grant (codes "grants.csv")

-- the synchronisation that copies it, by the largest pages, each asked for once
abbrev pub made_task : Task
made_task = record { token = codes "make"; limit = largest_limit; tries = 1 }

-- the line that tells how many schools were made
abbrev pub schools_line : ℕ → List ℕ
schools_line count = codes "schools " ++ decimal count ++ codes "\n"

-- the line of a kind and how many rows of it are held
abbrev pub counted_line : Kind → ℕ → List ℕ
counted_line kind count = plural_of kind ++ codes " " ++ decimal count ++ codes "\n"

-- that line, of a copy
abbrev pub count_line : Copy → Kind → List ℕ
count_line copy kind = counted_line kind (length (held_list copy kind))

-- how many schools were made, how many rows of each kind are held, and how many exchanges were made
abbrev pub summary_text : ℕ → Play → List ℕ
summary_text count world = (schools_line count ++ flat_map (count_line world.copy.copy) all_kinds) ++ exchanges_text world.link.asked

-- both lines are run, one behind the other, over the files of the district
pub record Publishes (count : ℕ) (begin granted : Play) : Type 0 where
  pub published : Play
  pub set_text : List ℕ
  pub set : HubStep (Some (made_files count)) set_line begin published set_text
  pub grant_text : List ℕ
  pub grant : HubStep (Some (made_files count)) grant_line published granted grant_text

-- the district is copied, and what is held then is summed up
pub record Copied (count : ℕ) (granted : Play) (a : SyncAnswer) (done : List ℕ) : Type 0 where
  pub copied : Play
  pub text : List ℕ
  pub sync : Synchronises made_task a granted copied text
  pub told : done ≡ summary_text count copied
  pub keeper : a ≢ KeeperFault

-- a world begins, in which the district is published, granted and copied
pub record MakesDistrict (count : ℕ) (a : SyncAnswer) (done : List ℕ) : Type 0 where
  pub begin : Play
  pub opens : Opens usual_keep begin
  pub granted : Play
  pub publishes : Publishes count begin granted
  pub copied : Copied count granted a done

-- what came of that, and the synchronisation's answer; memory may run out, also for the line of that answer
abbrev pub IsMakeAnswer : ℕ → List ℕ → End → Type 0
IsMakeAnswer count done (Synced a) = MakesDistrict count a done
IsMakeAnswer count done NoMemory = (done ≡ []) ⊎ ((a : SyncAnswer) × MakesDistrict count a done)
IsMakeAnswer count done _ = ⊥

-- ---- what the steps give

-- the district was copied, and this was told of it
abbrev pub CopiesEnd : ℕ → Play → List ℕ → End → Type 0
CopiesEnd count granted done (Synced a) = Copied count granted a done
CopiesEnd count granted done _ = ⊥

-- the same of an answer
abbrev pub Copies : ℕ → Play → Answer → Type 0
Copies count granted answer = CopiesEnd count granted answer.done answer.end

-- the district was published, granted and copied in a world that held nothing
abbrev pub MakesIn : ℕ → Play → Answer → Type 0
MakesIn count begin answer = (granted : Play) × Publishes count begin granted × Copies count granted answer
