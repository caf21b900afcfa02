-- What the hub's own reply to an entry's request says.
use Rattle.std.proofs.Common.{◌≡◌, ◌≤◌, ◌⊎◌, inl, inr, ⊎_elim, ℕ, ◌==◌, true, cond, List, [], ◌∷◌, All, Option, Some}
use Rattle.std.proofs.Common.{None, sym, ◌∙◌, ap, subst, arith}
use Rattle.std.proofs.lemmas.Bool.Decides.{nat_tests}
use Rattle.std.proofs.lemmas.List.Elements.{All-head, All-tail}
use Rattle.std.specs.List.{AllByRecursion}
use Rattle.std.specs.Prelude.{IfSome, is_none, is_some}
use Rattle.keeper_memory.specs.copy.Copies.{Copy, IsCopy, first_unsettled}
use Rattle.keeper_memory.specs.declared.copy.entry.OutEntry.{OutEntry}
use Rattle.exchange_link.specs.Causes.{IsLast}
use Rattle.exchange_link.specs.Exchanges.{LinkState, wanted_by}
use Rattle.exchange_link.specs.SendCauses.{IsBetween}
use Rattle.exchange_link.specs.SendCompleteness.{CanSendAll}
use Rattle.exchange_link.specs.declared.send_answer.SendAnswer.{SendAnswer}
use Rattle.exchange_link.specs.declared.send_answer.SendAnswer.TheVariants as answer
use Rattle.http_wire.specs.Seen.{seen_of}
use Rattle.http_wire.specs.declared.reply_reading.WireReply.{WireReply}
use Rattle.hub_spec.proofs.Growing.{Grew-trans}
use Rattle.hub_spec.specs.rules.Growth.{Grew}
use Rattle.hub_spec.specs.rules.States.{IsHub}
use Rattle.hub_spec.proofs.AgreeLemmas.{first_of_entry, settling_keeps, traffic_keeps}
use Rattle.hub_spec.proofs.AnswerLemmas.{marked_is, says_write}
use Rattle.hub_spec.proofs.ShowLemmas.{Bad as BadStatus, Deleted, IsKeptStatus, Missing, Refused, Stored, own_shown}
use Rattle.hub_spec.proofs.ShowLemmas.{shown_where_it_can, status_kept}
use Rattle.hub_spec.specs.marks.Agreement.{GivesOnly, IsCaller, IsOfEntry, IsShown, MarksAgree}
use Rattle.hub_spec.specs.marks.Answering.{IsWriteReply, Shown as ShownMark, ShowsMark, Shut as ShutOut, Stranger}
use Rattle.hub_spec.specs.marks.Answering.{Taken as TakenMark}
use Rattle.hub_spec.specs.marks.Marked.{Marked, mark_of, marked_by}
use Rattle.roster_base.specs.Faults.{Rose}
use Rattle.status_info.specs.Causes.{status_of}
use Rattle.status_info.specs.declared.cause.Cause.{Cause}
use Rattle.status_info.specs.declared.reply.Reply.{Reply}
use Rattle.status_info.specs.declared.request.Request.{Request}
use Rattle.exchange_link.specs.Owning.{IsOwnRead}
use Rattle.exchange_link.specs.Owning.Gives.{Wants as GivesWant, Broke as GivesFault, Answers as GivesAnswer}
use Rattle.exchange_link.specs.Requests.{Asks}
use Rattle.version_core.specs.HubStates.{HubState, newest_number}
use Rattle.version_core.specs.declared.mark.MarkRow.{MarkRow}
use Rattle.consumer_outbox.proofs.VerdictLemmas.{Bad, Fault, Shown, Shut, Taken, Unknown, Wants, judged}
use Rattle.consumer_outbox.proofs.WalkLemmas.{first_low}
use Rattle.consumer_outbox.specs.Sends.{Carries, IsBroken, IsFineIf, Ready, Settles, Stays, Takes, ToldIf, answer_of}
use Rattle.consumer_outbox.specs.Verdicts.{answered_verdict, does_settle, verdict_at, verdict_of}
use Rattle.consumer_outbox.specs.declared.verdict.Verdict.{Verdict}
use Rattle.consumer_outbox.specs.declared.verdict.Verdict.TheVariants as verdict

-- ---- what came

-- want of memory, a fault of the hub's keeper, or its answer to the marked write
pub data Given (mid left : HubState) (token : List ℕ) (marked : Marked) (rose : Type 0) (w : WireReply) : Type 0 where
  Lacks : w.status ≡ 503 → Given mid left token marked rose w
  Broke : w.status ≡ 500 → rose → Given mid left token marked rose w
  Says : (reply : Reply) → seen_of reply ≡ w → IsWriteReply mid (Some token) marked reply left → Given mid left token marked rose w

-- at some state between
pub record IsSaid (before after : LinkState) (token : List ℕ) (marked : Marked) (w : WireReply) : Type 0 where
  pub mid : HubState
  pub left : HubState
  pub is_hub : IsHub mid
  pub from : Grew before.hub mid
  pub step : Grew mid left
  pub on : Grew left after.hub
  pub given : Given mid left token marked (Rose before.hub_faults after.hub_faults) w

pub said_of : (a b : LinkState) (q : Request) (token : List ℕ) (marked : Marked) (w : WireReply) → q.token ≡ Some token → marked_by q ≡ Some marked → IsOwnRead a b q w → IsSaid a b token marked w
said_of a b q token marked w is_token is own = record {
  mid = own.mid;
  left = own.left;
  is_hub = own.is_hub;
  from = own.from;
  step = own.step;
  on = own.to;
  given = elim own.gives as (λ _. Given own.mid own.left token marked (Rose a.hub_faults b.hub_faults) w) [
    | GivesWant s ↦ Lacks (ap (λ (r : WireReply). r.status) (sym own.seen) ∙ s)
    | GivesFault s x ↦ Broke (ap (λ (r : WireReply). r.status) (sym own.seen) ∙ s) x
    | GivesAnswer at s ↦ Says own.reply own.seen (subst (λ t. IsWriteReply own.mid t marked own.reply own.left) is_token (says_write own.mid (wanted_by q) marked (marked_is (wanted_by q) marked is) at own.reply own.left s))
  ];
}

-- ---- the agreement while an entry is asked for

carried : (token : List ℕ) (entry : OutEntry) (Q : Marked → Type 0) (more : List Request) → Q (mark_of entry) → All (Carries token entry) more → AllByRecursion (λ q. IfSome (marked_by q) Q) more
carried token entry Q [] good h = tt
carried token entry Q (q ∷ more) good h =
    (subst (λ o. IfSome o Q) (sym (All-head (Carries token entry) q more h).1) good, carried token entry Q more good (All-tail (Carries token entry) q more h))

pub ready_asked : (token : List ℕ) (entry : OutEntry) (run n k : ℕ) (c : Copy) (t u : LinkState) → Asks run n k (Carries token entry) t u → first_unsettled c.entries ≡ Some entry → IsCopy c → Ready run n c t → Ready run k c u
ready_asked token entry run n k c t u asks first is ready = record {
  marks = subst (λ s. MarksAgree c.entries c.last_number u.hub s) (sym asks.adds.1)
      (traffic_keeps c.entries c.last_number t.hub u.hub asks.adds.0 t.sent asks.moved.grew
      (carried token entry (λ m. IsOfEntry m c.entries × (m.number ≤ c.last_number)) asks.adds.0 (first_of_entry c.entries entry first, first_low c.last_number c.entries entry first is.entries.below) asks.adds.2)
      ready.marks);
  numbers = asks.ready ready.numbers;
}

-- ---- the agreement once it is settled

settled_status : {a b c d : ℕ} → verdict.Settles a b ≡ verdict.Settles c d → (a ≡ c) × (b ≡ d)
settled_status e = (ap status_in e, ap version_in e)
  where
    status_in : Verdict → ℕ
    status_in (verdict.Settles status version) = status
    status_in v = 0

    version_in : Verdict → ℕ
    version_in (verdict.Settles status version) = version
    version_in v = 0

-- the token of the last request is given to its only callers
last_token : (q : Request) (token : List ℕ) (marked : Marked) (caller : List ℕ) (h : HubState) (sent : List Request) → IsLast q sent → q.token ≡ Some token → marked_by q ≡ Some marked → IsCaller caller h sent → GivesOnly h (Some token) caller
last_token q token marked caller h [] last is_token is given = absurd last
last_token q token marked caller h (p ∷ sent) last is_token is given =
    let one = subst (λ (r : Request). IfSome (marked_by r) (λ _. GivesOnly h r.token caller)) last given.0 in
    subst (λ t. GivesOnly h t caller) is_token (subst (λ o. IfSome o (λ _. GivesOnly h q.token caller)) is one)

module _ (a b : LinkState) (token : List ℕ) (entry : OutEntry) (w : WireReply) (said : IsSaid a b token (mark_of entry) w) where
  to : Grew said.mid b.hub
  to = Grew-trans said.mid said.left b.hub said.step said.on

  shown : (status version : ℕ) (caller : List ℕ) → GivesOnly b.hub (Some token) caller → verdict_of entry.number w ≡ verdict.Settles status version → IsShown b.hub caller entry (record { status = status; version = version })
  shown status version caller only is = elim (judged entry.number w) as (λ _. IsShown b.hub caller entry (record { status = status; version = version })) [
    | Unknown s e ↦ absurd (let f = sym e ∙ is in cc)
    | Fault s e ↦ absurd (let f = sym e ∙ is in cc)
    | Wants s e ↦ absurd (let f = sym e ∙ is in cc)
    | Shut s none e ↦ absurd (let f = sym e ∙ is in cc)
    | Taken s none e ↦ absurd (let f = sym e ∙ is in cc)
    | Bad bad e ↦ absurd (let f = sym e ∙ is in cc)
    | Shown v other marked versioned e ↦
        let same = settled_status (sym e ∙ is) in
        let version_is : w.version ≡ Some version = versioned ∙ ap (λ n. Some n) same.1 in
        elim said.given as (λ _. IsShown b.hub caller entry (record { status = status; version = version })) [
          | Lacks s ↦ absurd (other.2 s)
          | Broke s rose ↦ absurd (other.1 s)
          | Says reply seen says ↦
              let k = own_shown said.mid said.left b.hub said.is_hub said.step said.on to (Some token) reply entry version caller only
              (ap (λ (r : WireReply). r.mark) seen ∙ marked) (ap (λ (r : WireReply). r.version) seen ∙ version_is) says in
              subst (λ n. IsShown b.hub caller entry (record { status = n; version = version })) (ap (λ (r : WireReply). r.status) seen ∙ same.0) k
        ]
  ]

  -- what the reply's verdict makes of the copy keeps the agreement
  pub ready_taken : (run k : ℕ) (q : Request) (result : Option SendAnswer) (c d : Copy) → first_unsettled c.entries ≡ Some entry → q.token ≡ Some token → marked_by q ≡ Some (mark_of entry) → IsLast q b.sent
      → Takes (verdict_of entry.number w) entry.number result c d → Ready run k c b → Ready run k d b
  ready_taken run k q result c d first is_token is last (Stays n e) ready = subst (λ (d : Copy). Ready run k d b) (sym e) ready
  ready_taken run k q result c d first is_token is last (Settles status version v x e) ready = subst (λ (d : Copy). Ready run k d b) (sym e) (record {
    marks = settling_keeps (record { status = status; version = version }) c.entries entry c.last_number b.hub b.sent first
        (λ caller given. shown status version caller (last_token q token (mark_of entry) caller b.hub b.sent last is_token is given) v) ready.marks;
    numbers = ready.numbers;
  })

-- ---- why, over a link that tells

at_status : (k number : ℕ) (w : WireReply) → w.status ≡ k → verdict_of number w ≡ verdict_at k number w
at_status k number w e = ap (λ n. verdict_at n number w) e

answered_same : (k number version : ℕ) (w : WireReply) → w.mark ≡ Some number → w.version ≡ Some version → answered_verdict number k w.mark w.version ≡ verdict.Settles k version
answered_same k number version w em ev =
    let t : (number == number) ≡ true = grind (arith, nat_tests) in
    ap (λ (o : Option ℕ). answered_verdict number k o w.version) em ∙ ap (λ (o : Option ℕ). answered_verdict number k (Some number) o) ev ∙ ap (λ b. cond b (verdict.Settles k version) verdict.BadReply) t

-- a reply that shows the mark settles
shows_settles : (number version : ℕ) (w : WireReply) → IsKeptStatus w.status → w.mark ≡ Some number → w.version ≡ Some version → (status : ℕ) × (verdict_of number w ≡ verdict.Settles status version)
shows_settles number version w (Stored e) em ev = (201, at_status 201 number w e ∙ answered_same 201 number version w em ev)
shows_settles number version w (Deleted e) em ev = (204, at_status 204 number w e ∙ answered_same 204 number version w em ev)
shows_settles number version w (BadStatus e) em ev = (400, at_status 400 number w e ∙ answered_same 400 number version w em ev)
shows_settles number version w (Missing e) em ev = (404, at_status 404 number w e ∙ answered_same 404 number version w em ev)
shows_settles number version w (Refused e) em ev = (422, at_status 422 number w e ∙ answered_same 422 number version w em ev)

unmarked_at : (k number : ℕ) (w : WireReply) → w.mark ≡ None → answered_verdict number k w.mark w.version ≡ answered_verdict number k None w.version
unmarked_at k number w e = ap (λ (o : Option ℕ). answered_verdict number k o w.version) e

module _ (a b : LinkState) (token : List ℕ) (entry : OutEntry) (w : WireReply) (reply : Reply) (seen : seen_of reply ≡ w) where
  mark_is : {o : Option ℕ} → reply.mark ≡ o → w.mark ≡ o
  mark_is e = ap (λ (r : WireReply). r.mark) (sym seen) ∙ e

  status_is : {c : Cause} → reply.cause ≡ c → w.status ≡ status_of c
  status_is e = ap (λ (r : WireReply). r.status) (sym seen) ∙ ap status_of e

  kept_is : (kept : MarkRow) → ShowsMark kept (mark_of entry) reply → (status : ℕ) × (verdict_of entry.number w ≡ verdict.Settles status kept.kept.version)
  kept_is kept shows = shows_settles entry.number kept.kept.version w
      (subst IsKeptStatus (sym (ap (λ (r : WireReply). r.status) (sym seen) ∙ shows.status)) (status_kept kept.kept.outcome))
      (mark_is shows.mark) (ap (λ (r : WireReply). r.version) (sym seen) ∙ shows.version)

  says_told : (mid left : HubState) (entries : List OutEntry) → IsBetween a b mid → first_unsettled entries ≡ Some entry → IsWriteReply mid (Some token) (mark_of entry) reply left → ToldIf token a b entries (answer_of (verdict_of entry.number w) entry.number)
  says_told mid left entries between first (Stranger unknown why none) =
      subst (λ v. ToldIf token a b entries (answer_of v entry.number)) (sym (at_status 401 entry.number w (status_is why))) (mid, between, ap is_some unknown)
  says_told mid left entries between first (ShutOut by known shut why none) =
      subst (λ v. ToldIf token a b entries (answer_of v entry.number)) (sym (at_status 403 entry.number w (status_is why) ∙ unmarked_at 403 entry.number w (mark_is none))) (mid, between, by, known, (entry, first, shut))
  says_told mid left entries between first (TakenMark by kept known held differs why none) =
      subst (λ v. ToldIf token a b entries (answer_of v entry.number)) (sym (at_status 422 entry.number w (status_is why) ∙ unmarked_at 422 entry.number w (mark_is none))) (mid, between, by, known, (entry, kept, first, held, differs))
  says_told mid left entries between first (ShownMark by kept known held shows) =
      subst (λ v. ToldIf token a b entries (answer_of v entry.number)) (sym (kept_is kept shows).1) tt

broken_told : (token : List ℕ) (a b : LinkState) (entries : List OutEntry) (result : Option SendAnswer) → IsBroken result → ToldIf token a b entries result
broken_told token a b entries result x = ⊎_elim
    (λ (e : result ≡ Some answer.KeeperFault). subst (ToldIf token a b entries) (sym e) tt)
    (λ (e : result ≡ Some answer.NoMemory). subst (ToldIf token a b entries) (sym e) tt) x

module _ (a b : LinkState) (token : List ℕ) (entry : OutEntry) (w : WireReply) (said : IsSaid a b token (mark_of entry) w) where
  between : IsBetween a b said.mid
  between = record { from = said.from; to = Grew-trans said.mid said.left b.hub said.step said.on }

  own_told : (entries : List OutEntry) → first_unsettled entries ≡ Some entry → ToldIf token a b entries (answer_of (verdict_of entry.number w) entry.number)
  own_told entries first = elim said.given as (λ _. ToldIf token a b entries (answer_of (verdict_of entry.number w) entry.number)) [
    | Lacks s ↦ subst (λ v. ToldIf token a b entries (answer_of v entry.number)) (sym (at_status 503 entry.number w s)) tt
    | Broke s rose ↦ subst (λ v. ToldIf token a b entries (answer_of v entry.number)) (sym (at_status 500 entry.number w s)) rose
    | Says reply seen says ↦ says_told a b token entry w reply seen said.mid said.left entries between first says
  ]

  pub taken_told : (result : Option SendAnswer) (c d : Copy) → first_unsettled c.entries ≡ Some entry → Takes (verdict_of entry.number w) entry.number result c d
      → (result ≡ answer_of (verdict_of entry.number w) entry.number) ⊎ (IsBroken result × (does_settle (verdict_of entry.number w) ≡ true)) → ToldIf token a b d.entries result
  taken_told result c d first takes (inr x) = broken_told token a b d.entries result x.0
  taken_told result c d first (Stays n e) (inl is) = subst (ToldIf token a b d.entries) (sym is) (own_told d.entries (subst (λ (x : Copy). first_unsettled x.entries ≡ Some entry) (sym e) first))
  taken_told result c d first (Settles status version v x e) (inl is) = subst (ToldIf token a b d.entries) (sym (is ∙ ap (λ v. answer_of v entry.number) v)) tt

  -- where the token can send the entry, it is settled, save where memory wants
  own_fine : IsHub b.hub → ¬ Rose a.hub_faults b.hub_faults → CanSendAll token (newest_number a.hub) (entry ∷ []) b.hub → is_none entry.settled ≡ true → IsFineIf (answer_of (verdict_of entry.number w) entry.number)
  own_fine good quiet can yet = elim said.given as (λ _. IsFineIf (answer_of (verdict_of entry.number w) entry.number)) [
    | Lacks s ↦ subst (λ v. IsFineIf (answer_of v entry.number)) (sym (at_status 503 entry.number w s)) tt
    | Broke s rose ↦ absurd (quiet rose)
    | Says reply seen says ↦
        let shows = shown_where_it_can said.mid said.left b.hub said.is_hub said.step said.on between.to (Some token) reply (mark_of entry) can.by (newest_number a.hub) good
        (let longer = said.from.longer in omega (arith, longer)) can.known can.unchanged (can.each.0 yet) says in
        subst (λ v. IsFineIf (answer_of v entry.number)) (sym (kept_is a b token entry w reply seen shows.0 shows.1).1) tt
  ]

  pub taken_fine : (result : Option SendAnswer) → IsHub b.hub → ¬ Rose a.hub_faults b.hub_faults → CanSendAll token (newest_number a.hub) (entry ∷ []) b.hub → is_none entry.settled ≡ true → (result ≡ Some answer.KeeperFault → ⊥)
      → (result ≡ answer_of (verdict_of entry.number w) entry.number) ⊎ (IsBroken result × (does_settle (verdict_of entry.number w) ≡ true)) → IsFineIf result
  taken_fine result good quiet can yet fault (inl is) = subst IsFineIf (sym is) (own_fine good quiet can yet)
  taken_fine result good quiet can yet fault (inr x) = ⊎_elim
      (λ (e : result ≡ Some answer.KeeperFault). absurd (fault e))
      (λ (e : result ≡ Some answer.NoMemory). subst IsFineIf (sym e) tt) x.0
