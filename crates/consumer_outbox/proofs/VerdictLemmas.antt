-- What a verdict says of the reply, and of the answer.
use Rattle.std.proofs.Common.{◌≡◌, ◌≢◌, ◌⊎◌, inl, inr, ⊎_elim, ℕ, ◌==◌, Bool, true, false, cond, List, Option, Some}
use Rattle.std.proofs.Common.{None, refl, sym, ◌∙◌, ap, subst, arith}
use Rattle.std.specs.Prelude.{⊤}
use Rattle.std.proofs.lemmas.Bool.Decides.{nat_tests}
use Rattle.exchange_link.specs.Causes.{IsOwnReply}
use Rattle.exchange_link.specs.SendCauses.{AnswersSend, IsBadAnswer, IsOther, IsSendAside, NoVersion, OtherMark}
use Rattle.exchange_link.specs.SendCauses.{Unmarked}
use Rattle.exchange_link.specs.declared.send_answer.SendAnswer.{SendAnswer}
use Rattle.exchange_link.specs.declared.send_answer.SendAnswer.TheVariants as answer
use Rattle.http_wire.specs.declared.reply_reading.WireReply.{WireReply}
use Rattle.consumer_outbox.specs.Sends.{CauseIf, ExactIf, IsBroken, answer_of}
use Rattle.consumer_outbox.specs.Verdicts.{Settled, answered_verdict, does_settle, marked_verdict, verdict_of}
use Rattle.consumer_outbox.specs.declared.verdict.Verdict.{Verdict}
use Rattle.consumer_outbox.specs.declared.verdict.Verdict.TheVariants as verdict

-- the reply that a verdict comes from
pub data Judged (number : ℕ) (w : WireReply) (v : Verdict) : Type 0 where
  Unknown : w.status ≡ 401 → v ≡ verdict.UnknownToken → Judged number w v
  Fault : w.status ≡ 500 → v ≡ verdict.HubFault → Judged number w v
  Wants : w.status ≡ 503 → v ≡ verdict.HubNoMemory → Judged number w v
  Shut : w.status ≡ 403 → w.mark ≡ None → v ≡ verdict.NoScope → Judged number w v
  Taken : w.status ≡ 422 → w.mark ≡ None → v ≡ verdict.MarkTaken → Judged number w v
  Bad : IsBadAnswer number w → v ≡ verdict.BadReply → Judged number w v
  Shown : (version : ℕ) → IsOther w.status → w.mark ≡ Some number → w.version ≡ Some version → v ≡ verdict.Settles w.status version → Judged number w v

-- a test of two numbers, as what it says
test : (a b : ℕ) (t : Bool) → (a == b) ≡ t → (t ≡ true → a ≡ b) × (t ≡ false → a ≢ b)
test a b t e = (λ yes. grind (arith, nat_tests), λ no same. grind (arith, nat_tests))

module _ (number : ℕ) (w : WireReply) (other : IsOther w.status) where
  unmarked : w.mark ≡ None → (a b : Bool) → (w.status == 403) ≡ a → (w.status == 422) ≡ b
      → Judged number w (cond a verdict.NoScope (cond b verdict.MarkTaken verdict.BadReply))
  unmarked none true b e f = Shut ((test w.status 403 true e).0 refl) none refl
  unmarked none false true e f = Taken ((test w.status 422 true f).0 refl) none refl
  unmarked none false false e f = Bad (Unmarked other ((test w.status 403 false e).1 refl) ((test w.status 422 false f).1 refl) none) refl

  versioned : (version : Option ℕ) → w.mark ≡ Some number → w.version ≡ version → Judged number w (marked_verdict w.status version)
  versioned None marked e = Bad (NoVersion number other marked e) refl
  versioned (Some version) marked e = Shown version other marked e refl

  marked : (mark : ℕ) → w.mark ≡ Some mark → (t : Bool) → (mark == number) ≡ t → Judged number w (cond t (marked_verdict w.status w.version) verdict.BadReply)
  marked mark e true same = versioned w.version (e ∙ ap (λ n. Some n) ((test mark number true same).0 refl)) refl
  marked mark e false differs = Bad (OtherMark mark other e ((test mark number false differs).1 refl)) refl

  answered : (mark : Option ℕ) → w.mark ≡ mark → Judged number w (answered_verdict number w.status mark w.version)
  answered None e = unmarked e (w.status == 403) (w.status == 422) refl refl
  answered (Some mark) e = marked mark e (mark == number) refl

pub judged : (number : ℕ) (w : WireReply) → Judged number w (verdict_of number w)
judged number w = by (w.status == 401) (w.status == 500) (w.status == 503) refl refl refl
  where
    by : (a b c : Bool) → (w.status == 401) ≡ a → (w.status == 500) ≡ b → (w.status == 503) ≡ c
        → Judged number w (cond a verdict.UnknownToken (cond b verdict.HubFault (cond c verdict.HubNoMemory (answered_verdict number w.status w.mark w.version))))
    by true b c e f g = Unknown ((test w.status 401 true e).0 refl) refl
    by false true c e f g = Fault ((test w.status 500 true f).0 refl) refl
    by false false true e f g = Wants ((test w.status 503 true g).0 refl) refl
    by false false false e f g = answered number w ((test w.status 401 false e).1 refl, (test w.status 500 false f).1 refl, (test w.status 503 false g).1 refl) w.mark refl

-- ---- what a reply forces

-- the one where the test holds, else the other
abbrev Either : Bool → Type 0 → Type 0 → Type 0
Either true A B = A
Either false A B = B

-- what a status forces of the answer
abbrev Forced : SendAnswer → ℕ → Type 0
Forced a status =
    Either (status == 401) (a ≡ answer.UnknownToken)
    (Either (status == 500) ((number : ℕ) × (a ≡ answer.HubFault number))
    (Either (status == 503) ((number : ℕ) × (a ≡ answer.HubNoMemory number))
    (Either (status == 403) ((number : ℕ) × (a ≡ answer.NoScope number))
    (Either (status == 422) ((number : ℕ) × (a ≡ answer.MarkTaken number)) ⊤))))

-- a reply of one status forces what this status does, and nothing by another one
forced_at : {w : WireReply} {a : SendAnswer} {status : ℕ} → w.status ≡ status → Forced a status → AnswersSend w a
forced_at {w} {a} {status} s own = record {
  unknown = λ t. subst (Forced a) (sym s ∙ t) own;
  broke = λ t. subst (Forced a) (sym s ∙ t) own;
  wants = λ t. subst (Forced a) (sym s ∙ t) own;
  shut = λ t _. subst (Forced a) (sym s ∙ t) own;
  taken = λ t _. subst (Forced a) (sym s ∙ t) own;
}

none_some : {n : ℕ} {o : Option ℕ} → o ≡ None → o ≡ Some n → ⊥
none_some e f = cc

-- a reply that settled an entry forces no answer
pub settled_forces : (w : WireReply) (mark : ℕ) (a : SendAnswer) → IsOther w.status → w.mark ≡ Some mark → AnswersSend w a
settled_forces w mark a other marked = record {
  unknown = λ s. absurd (other.0 s);
  broke = λ s. absurd (other.1 s);
  wants = λ s. absurd (other.2 s);
  shut = λ s none. absurd (none_some none marked);
  taken = λ s none. absurd (none_some none marked);
}

bad_forces : (number : ℕ) (w : WireReply) (a : SendAnswer) → IsBadAnswer number w → AnswersSend w a
bad_forces number w a (Unmarked other not_shut not_taken none) = record {
  unknown = λ s. absurd (other.0 s);
  broke = λ s. absurd (other.1 s);
  wants = λ s. absurd (other.2 s);
  shut = λ s _. absurd (not_shut s);
  taken = λ s _. absurd (not_taken s);
}
bad_forces number w a (OtherMark mark other marked differs) = settled_forces w mark a other marked
bad_forces number w a (NoVersion mark other marked none) = settled_forces w mark a other marked

-- the answer that a verdict gives, where it is this one
is_given : {v v' : Verdict} (number : ℕ) {a b : SendAnswer} → answer_of v number ≡ Some a → v ≡ v' → answer_of v' number ≡ Some b → a ≡ b
is_given number given e is = let same = sym given ∙ ap (λ v. answer_of v number) e ∙ is in cc same

-- the answer of the status that it has
pub forces : (number : ℕ) (w : WireReply) (v : Verdict) (a : SendAnswer) → Judged number w v → answer_of v number ≡ Some a → AnswersSend w a
forces number w v a (Unknown s e) given = forced_at s (is_given number given e refl)
forces number w v a (Fault s e) given = forced_at s (number, is_given number given e refl)
forces number w v a (Wants s e) given = forced_at s (number, is_given number given e refl)
forces number w v a (Shut s none e) given = forced_at s (number, is_given number given e refl)
forces number w v a (Taken s none e) given = forced_at s (number, is_given number given e refl)
forces number w v a (Bad bad e) given = bad_forces number w a bad
forces number w v a (Shown version other marked shown e) given = settled_forces w number a other marked

-- what is answered on the reply to an entry: what its verdict says, unless the keeper or memory gave up as it was settled
abbrev AnswersReply : ℕ → WireReply → Option SendAnswer → Type 0
AnswersReply number w result = (result ≡ answer_of (verdict_of number w) number) ⊎ (IsBroken result × (does_settle (verdict_of number w) ≡ true))

-- what the reply forces, whatever the copy's keeper did
pub exact_of : (number : ℕ) (w : WireReply) (result : Option SendAnswer) → AnswersReply number w result → ExactIf w result
exact_of number w None x = ⊎_elim (λ (e : None ≡ answer_of (verdict_of number w) number). (number, settles (verdict_of number w) e)) (λ y. (number, y.1)) x
  where
    settles : (v : Verdict) → None ≡ answer_of v number → does_settle v ≡ true
    settles (verdict.Settles status version) e = refl
    settles verdict.UnknownToken e = cc
    settles verdict.NoScope e = cc
    settles verdict.MarkTaken e = cc
    settles verdict.BadReply e = cc
    settles verdict.HubFault e = cc
    settles verdict.HubNoMemory e = cc
exact_of number w (Some a) x = ⊎_elim (λ (e : Some a ≡ answer_of (verdict_of number w) number). inr (forces number w (verdict_of number w) a (judged number w) (sym e))) (λ y. inl (aside y.0)) x
  where
    aside : IsBroken (Some a) → IsSendAside a
    aside b = ⊎_elim (λ (e : Some a ≡ Some answer.KeeperFault). subst IsSendAside (sym (fault e)) tt) (λ (e : Some a ≡ Some answer.NoMemory). subst IsSendAside (sym (memory e)) tt) b
      where
        fault : Some a ≡ Some answer.KeeperFault → a ≡ answer.KeeperFault
        fault e = cc

        memory : Some a ≡ Some answer.NoMemory → a ≡ answer.NoMemory
        memory e = cc

-- a reply that settled an entry stands beside each answer
pub settled_exact : (w : WireReply) (a : SendAnswer) → Settled w → AnswersSend w a
settled_exact w a (number, settles) = by (verdict_of number w) (judged number w) settles
  where
    by : (v : Verdict) → Judged number w v → does_settle v ≡ true → AnswersSend w a
    by v (Unknown s e) t = absurd (let f = ap does_settle e in cc)
    by v (Fault s e) t = absurd (let f = ap does_settle e in cc)
    by v (Wants s e) t = absurd (let f = ap does_settle e in cc)
    by v (Shut s none e) t = absurd (let f = ap does_settle e in cc)
    by v (Taken s none e) t = absurd (let f = ap does_settle e in cc)
    by v (Bad bad e) t = bad_forces number w a bad
    by v (Shown version other marked shown e) t = settled_forces w number a other marked

-- ---- why

module _ (kept : List ℕ) (run count : ℕ) (missed broke : Type 0) where
  abbrev HasCause : Option SendAnswer → Type 0
  HasCause = CauseIf kept run count missed broke

  -- the cause of the answer that a verdict gives, where it is this one
  cause_at : (number : ℕ) (v v' : Verdict) → v ≡ v' → HasCause (answer_of v' number) → HasCause (answer_of v number)
  cause_at number v v' e = subst (λ x. HasCause (answer_of x number)) (sym e)

  pub verdict_cause : (number : ℕ) (w : WireReply) (v : Verdict) → IsOwnReply kept run count w → Judged number w v → HasCause (answer_of v number)
  verdict_cause number w v own (Unknown s e) = cause_at number v _ e (tt, (w, own, s))
  verdict_cause number w v own (Fault s e) = cause_at number v _ e (tt, (w, own, s))
  verdict_cause number w v own (Wants s e) = cause_at number v _ e (tt, (w, own, s))
  verdict_cause number w v own (Shut s none e) = cause_at number v _ e (tt, (w, own, s, none))
  verdict_cause number w v own (Taken s none e) = cause_at number v _ e (tt, (w, own, s, none))
  verdict_cause number w v own (Bad bad e) = cause_at number v _ e (tt, inr (w, own, bad))
  verdict_cause number w v own (Shown version other marked shown e) = cause_at number v _ e tt

  pub broken_cause : (result : Option SendAnswer) → IsBroken result → (result ≡ Some answer.KeeperFault → broke) → HasCause result
  broken_cause result broken fault = ⊎_elim
      (λ (e : result ≡ Some answer.KeeperFault). subst HasCause (sym e) (tt, fault e))
      (λ (e : result ≡ Some answer.NoMemory). subst HasCause (sym e) (tt, tt)) broken

  pub taken_cause : (number : ℕ) (w : WireReply) (result : Option SendAnswer) → IsOwnReply kept run count w → AnswersReply number w result → (result ≡ Some answer.KeeperFault → broke) → HasCause result
  taken_cause number w result own answers fault = ⊎_elim
      (λ (e : result ≡ answer_of (verdict_of number w) number). subst HasCause (sym e) (verdict_cause number w (verdict_of number w) own (judged number w)))
      (λ broken. broken_cause result broken.0 fault) answers
