-- The consumer's lines.
use Rattle.std.proofs.Common.{◌≡◌, ◌≢◌, ◌++◌, ℕ, List, Result, Ok, Err, String, Global, ap, false, refl, string_bytes}
use Rattle.std.proofs.Common.{subst, sym, ◌∙◌}
use Rattle.std.specs.Prelude.{IfOk}
use Rattle.hub_commands.specs.Below.SendLines.{send_text}
use Rattle.hub_commands.specs.Below.Sends.{IsEnterOf, IsSendOf}
use Rattle.hub_commands.specs.Below.SyncLines.{sync_text}
use Rattle.hub_commands.specs.Below.Syncs.{IsSyncOf}
use Rattle.exchange_link.specs.declared.answer.SyncAnswer.{SyncAnswer}
use Rattle.exchange_link.specs.declared.answer.SyncAnswer.TheVariants as sync
use Rattle.exchange_link.specs.declared.send_answer.EnterError.{EnterError}
use Rattle.exchange_link.specs.declared.send_answer.EnterError.TheVariants as enter
use Rattle.exchange_link.specs.declared.send_answer.SendAnswer.{SendAnswer}
use Rattle.exchange_link.specs.declared.send_answer.SendAnswer.TheVariants as send
use Rattle.hub_spec.specs.rules.States.{IsHub}
use Rattle.hub_words.specs.Tasks.{Sending, Task}
use Rattle.keeper_memory.specs.Calls.{CallsLead}
use Rattle.keeper_memory.specs.copy.Copies.{IsCopy}
use Rattle.keeper_memory.specs.copy.HeldCopy.{HeldCopy}
use Rattle.script_runs.proofs.Sounding.{agreed, is_exact}
use Rattle.script_runs.specs.Plays.{EntersWrite, SendStep, Sound, Synchronises, copies_between, links_between}
use Rattle.script_runs.specs.Plays.{said_taken, told_entered}
use Rattle.script_runs.specs.Sayings.{said_text}
use Rattle.script_runs.specs.declared.play.Play.{Play}
use Rattle.script_runs.specs.declared.play.Synced.{Synced}
use Rattle.sync_world.specs.Links.{HeldLink}
use Rattle.sync_world.specs.Traffic.{LinkLeads}
use Rattle.version_core.specs.declared.mark.Write.{Write}

-- over exchanges from the link of one world to `mid`, none of which wanted memory, and behind which what was told of
-- others is taken; and the line of the answer
module _ {E : Type 0} (r : Result (String Global) E) (old new : Play) (copy : HeldCopy) (mid : HeldLink) (line : List ℕ) (sound : Sound old) (leads : LinkLeads old.link mid) (whole : mid.wanted ≡ false)
    (calls : CallsLead old.copy.plan copy.plan) (text : IfOk r (λ t. string_bytes t ≡ said_text mid.said ++ line)) (taken : IfOk r (λ _. new ≡ record { link = said_taken mid; copy = copy })) where
  pub sent : (task : Sending) (a : SendAnswer) → a ≢ send.NoMemory → IsSendOf task a (copies_between old.copy copy) (links_between old.link mid) → line ≡ send_text a
      → IfOk r (λ t. SendStep task old new (string_bytes t))
  sent task a other is line_is = steps r text taken
    where
      steps : (r : Result (String Global) E) → IfOk r (λ t. string_bytes t ≡ said_text mid.said ++ line) → IfOk r (λ _. new ≡ record { link = said_taken mid; copy = copy })
          → IfOk r (λ t. SendStep task old new (string_bytes t))
      steps (Ok t) text taken = subst (λ (n : Play). SendStep task old n (string_bytes t)) (sym taken) (
        a,
        record {
          mid = mid;
          other = other;
          rounds = (leads.rounds whole).1;
          calls = calls;
          agreed = agreed old copy mid sound.agree;
          is = is;
          link = refl;
          told = text ∙ ap (λ (l : List ℕ). said_text mid.said ++ l) line_is;
        },
      )
      steps (Err e) text taken = tt

-- the answer and what is printed of it
pub synced : {E : Type 0} (r : Result Synced E) (old new : Play) (copy : HeldCopy) (mid : HeldLink) (task : Task) (a : SyncAnswer) → Sound old → a ≢ sync.NoMemory → LinkLeads old.link mid → mid.wanted ≡ false
    → CallsLead old.copy.plan copy.plan → IsSyncOf task a (copies_between old.copy copy) (links_between old.link mid) → IsHub mid.hub → IsCopy copy.copy → IfOk r (λ t. t.answer ≡ a)
    → IfOk r (λ t. string_bytes t.text ≡ said_text mid.said ++ sync_text a) → IfOk r (λ _. new ≡ record { link = said_taken mid; copy = copy })
    → IfOk r (λ t. Synchronises task t.answer old new (string_bytes t.text))
synced (Ok t) old new copy mid task a sound other leads whole calls is hub is_copy same text taken =
    let agree = agreed old copy mid sound.agree in
    subst (λ (x : SyncAnswer). Synchronises task x old new (string_bytes t.text)) (sym same)
    (subst (λ (n : Play). Synchronises task a old n (string_bytes t.text)) (sym taken) (record {
      mid = mid;
      other = other;
      rounds = (leads.rounds whole).1;
      calls = calls;
      agreed = agree;
      is = is;
      exact = is_exact task a old copy mid agree is hub is_copy;
      link = refl;
      told = text;
    }))
synced (Err e) old new copy mid task a sound other leads whole calls is hub is_copy same text taken = tt

pub entered : {E : Type 0} (r : Result (String Global) E) (old : Play) (copy : HeldCopy) (write : Write) (given : Result ℕ EnterError) → CallsLead old.copy.plan copy.plan
    → IsEnterOf write given (copies_between old.copy copy) → IfOk r (λ t. (given ≢ Err enter.NoMemory) × (string_bytes t ≡ told_entered given))
    → IfOk r (λ t. EntersWrite write old (record { link = old.link; copy = copy }) (string_bytes t))
entered (Ok t) old copy write given calls is told = (given, told.0, calls, is, refl, told.1)
entered (Err e) old copy write given calls is told = tt
