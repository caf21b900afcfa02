-- Hub and copy agree behind each line.
use Rattle.std.proofs.Common.{◌≡◌, ℕ, true, false, List, Option, Result, Ok, Err, inl, inr, refl, ap, subst, sym}
use Rattle.std.specs.Prelude.{IfOk, nat_lt, if◌then◌else◌, ◌++◌, ◌∷◌, []}
use Rattle.exchange_link.specs.Exchanges.{LinkState}
use Rattle.exchange_link.specs.Marks.{Agree}
use Rattle.exchange_link.specs.Synchronised.{HeldTold}
use Rattle.exchange_link.specs.declared.answer.SyncAnswer.{SyncAnswer}
use Rattle.exchange_link.specs.declared.answer.SyncAnswer.TheVariants as sync
use Rattle.exchange_link.specs.declared.send_answer.SendAnswer.{SendAnswer}
use Rattle.hub_commands.specs.Below.Sends.{AgreedAll}
use Rattle.hub_commands.specs.Below.Syncs.{IsSyncOf}
use Rattle.hub_spec.specs.rules.States.{IsHub}
use Rattle.hub_words.specs.Tasks.{Sending, Task}
use Rattle.keeper_memory.specs.copy.Copies.{Copy, IsCopy}
use Rattle.keeper_memory.specs.copy.HeldCopy.{HeldCopy}
use Rattle.outside_ports.specs.Files.{Stored}
use Rattle.script_runs.specs.Plays.{BecomesLink, EntersWrite, HubStep, IsExact, LineStep, ReadStep, Sends, Sound}
use Rattle.script_runs.specs.Plays.{Synchronises, copies_between, links_between}
use Rattle.script_runs.specs.declared.play.Play.{Play}
use Rattle.sync_world.proofs.AgreeingLemmas.{agree_walks}
use Rattle.sync_world.specs.Links.{HeldLink, link_state, with_event}
use Rattle.sync_world.specs.declared.traffic.Happening.{Happening}
use Rattle.version_core.specs.declared.mark.Write.{Write}
use Rattle.world_scripts.specs.declared.script.HubLine.{HubLine}
use Rattle.world_scripts.specs.declared.script.Line.{Line}
use Rattle.world_scripts.specs.declared.script.Line.TheVariants as line

abbrev Agrees : Play → Type 0
Agrees world = Agree world.copy.copy (link_state world.link)

-- ---- over one call

-- what agrees agrees for all that the call begins with
pub agreed : (old : Play) (copy : HeldCopy) (mid : HeldLink) → Agrees old → AgreedAll (copies_between old.copy copy) (links_between old.link mid)
agreed old copy mid agree c t stood told = subst (λ (k : Copy). Agree k t) (sym stood.0) (subst (Agree old.copy.copy) (sym told.0) agree)

exact_of : (token : List ℕ) (a : SyncAnswer) (before after : Copy) (told tells : LinkState) → HeldTold token a before told after tells → IsExact token a after tells.hub
exact_of token (sync.Complete version) before after told tells held = held.held
exact_of token a before after told tells held = tt

-- a synchronisation that is complete is exact
pub is_exact : (task : Task) (a : SyncAnswer) (old : Play) (copy : HeldCopy) (mid : HeldLink) → AgreedAll (copies_between old.copy copy) (links_between old.link mid)
    → IsSyncOf task a (copies_between old.copy copy) (links_between old.link mid) → IsHub mid.hub → IsCopy copy.copy → IsExact task.token a copy.copy mid.hub
is_exact task a old copy mid agree is hub is_copy =
    let (before, told, stood, tells, done) = is.told (λ c t stood tells. (agree c t stood tells).stage) copy.copy (link_state mid) (refl, is_copy) (refl, hub) in
    exact_of task.token a before copy.copy told (link_state mid) done.held

-- ---- behind one line

sync_agrees : (task : Task) (a : SyncAnswer) (old new : Play) (text : List ℕ) → IsHub new.link.hub → IsCopy new.copy.copy → Synchronises task a old new text → Agrees new
sync_agrees task a old new text hub copy step =
    let hub' = subst (λ (l : HeldLink). IsHub l.hub) step.link hub in
    let (before, told, stood, tells, done) = step.is.told (λ c t stood tells. (step.agreed c t stood tells).stage) new.copy.copy (link_state step.mid) (refl, copy) (refl, hub') in
    let marks = step.is.marks (λ c t stood tells. (step.agreed c t stood tells).marks) new.copy.copy (link_state step.mid) (refl, copy) (refl, hub') in
    subst (λ (l : HeldLink). Agree new.copy.copy (link_state l)) (sym step.link) (record { stage = done.agree; marks = marks })

send_agrees : (task : Sending) (old new : Play) (text : List ℕ) → IsHub new.link.hub → IsCopy new.copy.copy → (a : SendAnswer) × Sends task a old new text → Agrees new
send_agrees task old new text hub copy (a, step) =
    let hub' = subst (λ (l : HeldLink). IsHub l.hub) step.link hub in
    let (before, told, stood, tells, done) = step.is.told step.agreed new.copy.copy (link_state step.mid) (refl, copy) (refl, hub') in
    subst (λ (l : HeldLink). Agree new.copy.copy (link_state l)) (sym step.link) done.agree

enter_agrees : (old new : Play) (text : List ℕ) (write : Write) → IsCopy new.copy.copy → EntersWrite write old new text → Agrees old → Agrees new
enter_agrees old new text write copy (r, memory, calls, is, link, told) agree =
    subst (λ (l : HeldLink). Agree new.copy.copy (link_state l)) (sym link)
    (is.agree (link_state old.link) (λ c stood. subst (λ (k : Copy). Agree k (link_state old.link)) (sym stood.0) agree) new.copy.copy (refl, copy))

act_agrees : (files : Option (List Stored)) (l : HubLine) (old new : Play) (text : List ℕ) → HubStep files l old new text → Agrees old → Agrees new
act_agrees files l old new text (act, is, (mid, (acted, rest), same, told)) agree =
    let sent = ap (λ (link : HeldLink). link.sent) rest in
    let mid_agrees = agree_walks old.copy.copy old.link mid (record { steps = acted.done.steps; by = acted.by }) sent agree in
    subst Agrees (sym same) mid_agrees

becomes_agrees : (link : HeldLink) (old new : Play) (text : List ℕ) → link_state link ≡ link_state old.link → BecomesLink link old new text → Agrees old → Agrees new
becomes_agrees link old new text same (becomes, silent) agree = subst Agrees (sym becomes) (subst (Agree old.copy.copy) (sym same) agree)

event_told : (exchange : ℕ) (happening : Happening) (link : HeldLink) → link_state (with_event exchange happening link) ≡ link_state link
event_told exchange happening link =
    elim (nat_lt link.asked exchange) as (λ b. link_state (if b then record link { events = link.events ++ record { exchange = exchange; happening = happening } ∷ [] } else link) ≡ link_state link) [
      | true ↦ refl
      | false ↦ refl
    ]

read_agrees : (read : List ℕ) (old new : Play) (text : List ℕ) → ReadStep read old new text → Agrees old → Agrees new
read_agrees read old new text (link, copy, calls, told) agree =
    subst (λ (l : HeldLink). Agree new.copy.copy (link_state l)) (sym link) (subst (λ (c : Copy). Agree c (link_state old.link)) (sym copy) agree)

line_agrees : (files : Option (List Stored)) (l : Line) (old new : Play) (text : List ℕ) → IsHub new.link.hub → IsCopy new.copy.copy → LineStep files l old new text → Agrees old → Agrees new
line_agrees files (line.Keep keep) old new text hub copy (same, silent) agree = subst Agrees (sym same) agree
line_agrees files (line.Hub l) old new text hub copy step agree = act_agrees files l old new text step agree
line_agrees files (line.At exchange l) old new text hub copy (act, is, step) agree = becomes_agrees _ old new text (event_told exchange _ old.link) step agree
line_agrees files (line.Sync task) old new text hub copy (a, step) agree = sync_agrees task a old new text hub copy step
line_agrees files (line.Enter task) old new text hub copy (inl (write, is, step)) agree = enter_agrees old new text write copy step agree
line_agrees files (line.Enter task) old new text hub copy (inr (end, is, same, told)) agree = subst Agrees (sym same) agree
line_agrees files (line.Send task) old new text hub copy step agree = send_agrees task old new text hub copy step
line_agrees files line.Outbox old new text hub copy step agree = read_agrees _ old new text step agree
line_agrees files (line.ListHeld kind) old new text hub copy step agree = read_agrees _ old new text step agree
line_agrees files (line.Late request exchange) old new text hub copy step agree = becomes_agrees _ old new text (event_told exchange _ old.link) step agree
line_agrees files (line.CopyFails acted commit) old new text hub copy (becomes, silent) agree = subst Agrees (sym becomes) agree
line_agrees files line.Exchanges old new text hub copy (same, told) agree = subst Agrees (sym same) agree
line_agrees files other old new text hub copy step agree = becomes_agrees _ old new text refl step agree

-- ---- what calls give

pub line_sound : {T E : Type 0} (shown : T → List ℕ) (r : Result T E) (files : Option (List Stored)) (l : Line) (old new : Play) → Sound old → IfOk r (λ t. LineStep files l old new (shown t)) → IsHub new.link.hub → IsCopy new.copy.copy
    → IfOk r (λ _. Sound new)
line_sound shown (Ok t) files l old new sound step hub copy = record { hub = hub; copy = copy; agree = line_agrees files l old new (shown t) hub copy step sound.agree }
line_sound shown (Err e) files l old new sound step hub copy = tt

-- the same of what others do
pub hub_sound : (files : Option (List Stored)) (l : HubLine) (old new : Play) (text : List ℕ) → Sound old → HubStep files l old new text → IsHub new.link.hub → IsCopy new.copy.copy → Sound new
hub_sound files l old new text sound step hub copy = record { hub = hub; copy = copy; agree = act_agrees files l old new text step sound.agree }
