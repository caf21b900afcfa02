-- The ends that files bring, told or not.
use Rattle.std.proofs.Common.{◌≡◌, ◌≢◌, ℕ, ℤ, List, Option, Some, Result, Ok, Err, inl, inr, refl, subst, sym}
use Rattle.std.specs.Prelude.{IfOk}
use Rattle.hub_commands.specs.Answers.{end_text}
use Rattle.hub_commands.specs.AskAnswers.{IsBytesOf, ReadsBytes}
use Rattle.hub_commands.specs.GrantAnswers.{IsGrantsOf, ReadsGrants}
use Rattle.hub_commands.specs.OutboxAnswers.{IsWriteOf, ReadsWrite}
use Rattle.hub_commands.specs.Outside.{Faults, HaveRisen, HaveStood, Outside, outside_of}
use Rattle.hub_commands.specs.Steps.{ReadsSet}
use Rattle.hub_commands.specs.declared.answer.End.{End}
use Rattle.hub_commands.specs.declared.answer.End.TheVariants.{FolderFailed, NoMemory, Refused}
use Rattle.hub_words.specs.declared.task.Feed.{Feed}
use Rattle.hub_words.specs.declared.words.EnterTask.{EnterTask}
use Rattle.outside_ports.specs.Files.{Stored}
use Rattle.script_runs.specs.Acting.{IsActOf, ReadsAct, Tells}
use Rattle.script_runs.specs.Plays.{EnterStep, EntersWrite}
use Rattle.script_runs.specs.declared.play.Play.{Play}
use Rattle.script_runs.specs.declared.sources.Stop.{Stop}
use Rattle.script_runs.specs.declared.sources.Stop.TheVariants as stop
use Rattle.sync_world.specs.declared.acts.HubAct.{HubAct}
use Rattle.sync_world.specs.declared.acts.HubAct.TheVariants.{Tell}
use Rattle.version_core.specs.declared.mark.Write.{Write}
use Rattle.world_scripts.specs.declared.script.HubLine.TheVariants as line

module _ (files : Option (List Stored)) (faults : Faults) where
  set_told : (feed : Feed) (end : End) → ReadsSet files faults feed (Err end) → end ≢ FolderFailed → end ≢ NoMemory → IsActOf files (line.Set feed) (Tell (end_text end)) × HaveStood faults
  set_told feed FolderFailed reads folder memory = absurd (folder refl)
  set_told feed (Refused f) reads folder memory = ((f, reads.0, refl), reads.1)
  set_told feed NoMemory reads folder memory = absurd (memory refl)
  set_told feed end reads folder memory = absurd reads

  grants_told : (file : List ℕ) (end : End) → ReadsGrants files faults file (Err end) → end ≢ FolderFailed → end ≢ NoMemory → IsGrantsOf files file (Err end) × HaveStood faults
  grants_told file FolderFailed reads folder memory = absurd (folder refl)
  grants_told file NoMemory reads folder memory = absurd (memory refl)
  grants_told file end reads folder memory = reads

  bytes_told : (file : List ℕ) (end : End) → ReadsBytes files faults file (Err end) → end ≢ FolderFailed → end ≢ NoMemory → IsBytesOf files file (Err end) × HaveStood faults
  bytes_told file FolderFailed reads folder memory = absurd (folder refl)
  bytes_told file NoMemory reads folder memory = absurd (memory refl)
  bytes_told file end reads folder memory = reads

-- a write's file
write_told : (o : Outside) (task : EnterTask) (end : End) → ReadsWrite o task (Err end) → end ≢ FolderFailed → end ≢ NoMemory → IsWriteOf o.files o.moment task (Err end) × HaveStood o.folder
write_told o task FolderFailed reads folder memory = absurd (folder refl)
write_told o task NoMemory reads folder memory = absurd (memory refl)
write_told o task end reads folder memory = reads

-- what a line reads where its file is refused
module _ (files : Option (List Stored)) (faults : Faults) (end : End) where
  abbrev Refuses : Result HubAct Stop → Type 0
  Refuses r = Tells (λ text told. told ≡ Tell text) end r

  pub set_refused : (feed : Feed) → ReadsSet files faults feed (Err end) → (r : Result HubAct Stop) → Refuses r → ReadsAct files faults (line.Set feed) r
  set_refused feed reads (Ok told) is = subst (λ (t : HubAct). IsActOf files (line.Set feed) t × HaveStood faults) (sym is.0) (set_told files faults feed end reads is.1 is.2)
  set_refused feed reads (Err stop.Folder) is = subst (λ (e : End). ReadsSet files faults feed (Err e)) is reads
  set_refused feed reads (Err stop.NoMemory) is = tt

  pub grants_refused : (file : List ℕ) → ReadsGrants files faults file (Err end) → (r : Result HubAct Stop) → Refuses r → ReadsAct files faults (line.Grant file) r
  grants_refused file reads (Ok told) is =
      let of_file = grants_told files faults file end reads is.1 is.2 in
      subst (λ (t : HubAct). IsActOf files (line.Grant file) t × HaveStood faults) (sym is.0) ((end, of_file.0, refl), of_file.1)
  grants_refused file reads (Err stop.Folder) is = subst (λ (e : End). ReadsGrants files faults file (Err e)) is reads
  grants_refused file reads (Err stop.NoMemory) is = tt

  pub bytes_refused : (file : List ℕ) → ReadsBytes files faults file (Err end) → (r : Result HubAct Stop) → Refuses r → ReadsAct files faults (line.Ask file) r
  bytes_refused file reads (Ok told) is =
      let of_file = bytes_told files faults file end reads is.1 is.2 in
      subst (λ (t : HubAct). IsActOf files (line.Ask file) t × HaveStood faults) (sym is.0) ((end, of_file.0, refl), of_file.1)
  bytes_refused file reads (Err stop.Folder) is = subst (λ (e : End). ReadsBytes files faults file (Err e)) is reads
  bytes_refused file reads (Err stop.NoMemory) is = tt

-- ---- the folder's faults

pub ok_any : {A E P : Type 0} (r : Result A E) → P → IfOk r (λ _. P)
ok_any (Ok x) p = p
ok_any (Err e) p = tt

-- where the file of a write is refused, and that is told
module _ {T : Type 0} (o : Outside) (task : EnterTask) (end : End) (reads : ReadsWrite o task (Err end)) (is : List ℕ → T → Type 0) where
  pub refusal_stood : (r : Result T Stop) → Tells is end r → IfOk r (λ _. HaveStood o.folder)
  refusal_stood (Ok told) tells = (write_told o task end reads tells.1 tells.2).1
  refusal_stood (Err e) tells = tt

  pub refusal_rose : (r : Result T Stop) → Tells is end r → r ≡ Err stop.Folder → HaveRisen o.folder
  refusal_rose (Ok told) tells e = cc e
  refusal_rose (Err stop.Folder) tells e = subst (λ (end : End). ReadsWrite o task (Err end)) tells reads
  refusal_rose (Err stop.NoMemory) tells e = cc e

-- ---- writes

-- a write is entered
pub enters : {T E S : Type 0} (shown : T → List ℕ) (files : Option (List Stored)) (moment : ℤ) (task : EnterTask) (old new : Play) (write : Write) (printed : Result T E) (r : Result T S) → moment ≡ old.link.clock
    → IsWriteOf files (Some moment) task (Ok write) → IfOk printed (λ t. EntersWrite write old new (shown t)) → IfOk r (λ t. printed ≡ Ok t) → IfOk r (λ t. EnterStep files task old new (shown t))
enters shown files moment task old new write printed (Ok t) at is entered same =
    inl (write, subst (λ (m : ℤ). IsWriteOf files (Some m) task (Ok write)) at is, subst (λ p. IfOk p (λ t. EntersWrite write old new (shown t))) same entered)
enters shown files moment task old new write printed (Err e) at is entered same = tt

-- or its file is refused
pub enters_none : {T : Type 0} (shown : T → List ℕ) (files : Option (List Stored)) (moment : ℤ) (folder keeper : Faults) (task : EnterTask) (old : Play) (end : End) (r : Result T Stop) → moment ≡ old.link.clock
    → ReadsWrite (outside_of files (Some moment) folder keeper) task (Err end) → Tells (λ text told. shown told ≡ text) end r → IfOk r (λ t. EnterStep files task old old (shown t))
enters_none shown files moment folder keeper task old end (Ok t) at reads tells =
    let (is, stood) = write_told (outside_of files (Some moment) folder keeper) task end reads tells.1 tells.2 in
    inr (end, subst (λ (m : ℤ). IsWriteOf files (Some m) task (Err end)) at is, refl, tells.0)
enters_none shown files moment folder keeper task old end (Err e) at reads tells = tt
