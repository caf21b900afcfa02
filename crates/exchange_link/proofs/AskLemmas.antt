-- How a run of exchanges goes on.
use Rattle.std.proofs.Common.{◌≡◌, ◌≢◌, ◌<◌, ◌≤◌, ◌⊎◌, inl, inr, ⊎_elim, ℕ, ℤ, List, [], ◌∷◌, ◌++◌, Some, Ok, Err, refl}
use Rattle.std.proofs.Common.{sym, ◌∙◌, ap, subst, arith, append_assoc}
use Rattle.std.specs.Prelude.{Result}
use Rattle.std.proofs.lemmas.List.Elements.{All-append, All-cons, All-nil, All-weaker}
use Rattle.std.proofs.lemmas.Option.{same_Some}
use Rattle.exchange_link.specs.Agreement.{NotSent}
use Rattle.exchange_link.specs.Exchanges.{AnswersRequest, Exchanged, IsLate, IsOwn, SentAs, LinkState, wanted_by}
use Rattle.hub_spec.proofs.Growing.{Grew-refl, Grew-trans, step_grows}
use Rattle.hub_spec.specs.rules.Answers.{sent}
use Rattle.hub_spec.specs.rules.Growth.{Grew}
use Rattle.hub_spec.specs.rules.Runs.{Acts, Fails, Replied, Steps, Take, WantsMemory}
use Rattle.http_wire.specs.Answers.{IsNoReply, IsReplyText}
use Rattle.http_wire.specs.Seen.{seen_of}
use Rattle.http_wire.specs.declared.reply_reading.WireReply.{WireReply}
use Rattle.outside_ports.specs.declared.failed.IoError.{IoError}
use Rattle.outside_ports.specs.declared.failed.IoError.TheVariants as io_error
use Rattle.status_info.specs.declared.reply.Reply.{Reply}
use Rattle.status_info.specs.declared.request.Echo.{Echo}
use Rattle.status_info.specs.declared.request.Request.{Request}
use Rattle.version_core.specs.HubStates.{HubState}
use Rattle.exchange_link.specs.Owning.{Answers, Broke, Gives, IsLateRead, IsOwnRead, Tries, Wants}
use Rattle.roster_base.specs.Faults.{Rose}
use Rattle.status_info.specs.Causes.{status_of}
use Rattle.exchange_link.specs.Requests.{Adds, AllSpent, Asks, IfOwn, IsReady, Moved, number}
use Rattle.exchange_link.specs.Causes.{IsLast, ToldCause}
use Rattle.exchange_link.specs.declared.answer.SyncAnswer.{SyncAnswer}
use Rattle.exchange_link.specs.declared.answer.SyncAnswer.TheVariants as answer
use Rattle.exchange_link.specs.declared.asking.Outcome.{Outcome}
use Rattle.exchange_link.specs.declared.asking.Outcome.TheVariants as outcome
use Rattle.exchange_link.proofs.TextLemmas.{text_read, text_seen}

pub grew_on : {a b c : HubState} → Grew a b → Grew b c → Grew a c
grew_on {a} {b} {c} x y = Grew-trans a b c x y

pub moved_refl : (t : LinkState) → Moved t t
moved_refl t = record { grew = Grew-refl t.hub; counts = omega arith }

pub moved_on : {a b c : LinkState} → Moved a b → Moved b c → Moved a c
moved_on {a} {b} {c} x y = record { grew = grew_on x.grew y.grew; counts = omega (arith, x.counts, y.counts) }

-- what an answer tells, from an earlier state on
pub cause_more : (token : List ℕ) (z a b : LinkState) (s : SyncAnswer) → Moved z a → ToldCause token a b s → ToldCause token z b s
cause_more token z a b (answer.TooLarge kind total) m x = x
cause_more token z a b (answer.BadReply kind offset) m x = x
cause_more token z a b answer.HubFault m x = omega (arith, x, m.counts)
cause_more token z a b (answer.PinGone pin oldest) m x = (x.0, grew_on m.grew x.1, x.2, x.3, x.4, x.5)
cause_more token z a b answer.UnknownToken m x = (x.0, grew_on m.grew x.1, x.2, x.3)
cause_more token z a b s m x = tt

-- ---- what one exchange brings

same_reply : {a b : Reply} → Replied a ≡ Replied b → a ≡ b
same_reply e = cc

-- what a step that takes the request replies
step_gives : (q : Request) (at : ℤ) (mid left : HubState) (r : Reply) (failed : ℕ) (rose : Type 0) → Steps (Take (wanted_by q) at) mid (Replied r) left failed → (failed ≡ 1 → rose) → Gives mid left q rose r
step_gives q at mid left r failed rose step broke = elim step as (λ _. Gives mid left q rose r) [
  | Acts does none ↦ Answers at (subst (λ x. AnswersRequest mid q at x left) (sym (same_reply does.2)) does.1)
  | Fails acted told once ↦ Broke (ap (λ (x : Reply). status_of x.cause) (same_reply told)) (broke once)
  | WantsMemory wants told none ↦ Wants (ap (λ (x : Reply). status_of x.cause) (same_reply told))
]

own_read : (before after : LinkState) (q : Request) (text : List ℕ) (w : WireReply) → IsOwn before after q text → IsReplyText text w → IsOwnRead before after q w
own_read before after q text w x is = record {
  reply = x.reply;
  seen = text_seen text x.reply w x.text_is x.read is;
  says = x.says;
  mid = x.taken_at;
  left = x.left;
  is_hub = x.is_hub;
  from = x.from;
  step = (step_grows (Take (wanted_by q) x.at) x.taken_at (Replied x.reply) x.left x.failed x.step).grew;
  to = x.to;
  gives = step_gives q x.at x.taken_at x.left x.reply x.failed (Rose before.hub_faults after.hub_faults) x.step x.broke;
}

late_read : (sent : List Request) (text : List ℕ) (w : WireReply) → IsLate sent text → IsReplyText text w → IsLateRead sent w
late_read sent text w x is = record { to = x.to; was_sent = x.was_sent; echo = ap (λ (r : WireReply). r.echo) (sym (text_seen text x.reply w x.text_is x.read is)) ∙ x.echo }

read_of : (before after : LinkState) (q : Request) (rose : Type 0) (text : List ℕ) (w : WireReply) → IsOwn before after q text ⊎ (rose × IsLate before.sent text) → IsReplyText text w → IsOwnRead before after q w ⊎ IsLateRead before.sent w
read_of before after q rose text w x is = ⊎_elim
    (λ (own : IsOwn before after q text). inl (own_read before after q text w own is))
    (λ (late : rose × IsLate before.sent text). inr (late_read before.sent text w late.1 is)) x

-- what comes over a link that tells is a reply
pub is_reply : (before after : LinkState) (q : Request) (rose : Type 0) (text : List ℕ) → IsOwn before after q text ⊎ (rose × IsLate before.sent text) → IsNoReply text → ⊥
is_reply before after q rose text x none = ⊎_elim
    (λ (own : IsOwn before after q text). none (seen_of own.reply) (text_read text own.reply own.text_is own.read))
    (λ (late : rose × IsLate before.sent text). none (seen_of (late.1).reply) (text_read text (late.1).reply (late.1).text_is (late.1).read)) x

abbrev IfText : Outcome → List ℕ → Type 0
IfText result text = IfOwn result (λ w. IsReplyText text w)

own_by : (result : Outcome) (before after : LinkState) (q : Request) (rose : Type 0) (text : List ℕ) → IsOwn before after q text ⊎ (rose × IsLate before.sent text) → IfText result text
    → IfOwn result (λ w. IsOwnRead before after q w ⊎ IsLateRead before.sent w)
own_by (outcome.Own w) before after q rose text x is = read_of before after q rose text w x is
own_by other before after q rose text x is = tt

-- an exchange that answered
pub tries_ok : (q : Request) (result : Outcome) (rose : Type 0) (text : List ℕ) (before after : LinkState) → Exchanged q (Ok tt) rose text before after → IfText result text → Tries q result before after
tries_ok q result rose text before after x is = record {
  grew = x.grew;
  counts = x.counts;
  sent = ⊎_elim (λ (e : after.sent ≡ q ∷ before.sent). inl e) (λ no. absurd (never no.0)) x.sent;
  own = own_by result before after q rose text x.replies is;
}
  where
    never : (let r : Result (Unit {0}) IoError = Ok tt in r ≡ Err io_error.NoMemory) → ⊥
    never e = cc

-- ---- numbers

-- a number above all spent ones is new
pub not_sent : (run count : ℕ) (n : Echo) (sent : List Request) → n.run ≡ run → count < n.count → AllSpent run count sent → NotSent n sent
not_sent run count n [] er lt h was = was
not_sent run count n (q ∷ qs) er lt h was = ⊎_elim
    (λ (e : q.echo ≡ Some n). ⊎_elim (λ (below : n.run < run). absurd (omega (arith, below, er)))
    (λ (same : (n.run ≡ run) × (n.count ≤ count)). absurd (omega (arith, same.1, lt))) (h.0 n e))
    (λ rest. not_sent run count n qs er lt h.1 rest)
    was

pub spent_more : (run a b : ℕ) (sent : List Request) → a ≤ b → AllSpent run a sent → AllSpent run b sent
spent_more run a b [] le h = tt
spent_more run a b (q ∷ qs) le h = (λ n e. ⊎_elim (λ (below : n.run < run). inl below) (λ (same : (n.run ≡ run) × (n.count ≤ a)). inr (same.0, omega (arith, same.1, le))) (h.0 n e), spent_more run a b qs le h.1)

pub ready_more : (run n m : ℕ) (q : Request) (before after : List Request) → after ≡ q ∷ before → q.echo ≡ Some (number run m) → n < m → IsReady run n before → IsReady run m after
ready_more run n m q before after e eq lt h = subst (λ s. IsReady run m s) (sym e) (record {
  differ = (λ k ek. not_sent run n k before (ap (λ (x : Echo). x.run) (is k ek)) (omega (arith, lt, ap (λ (x : Echo). x.count) (is k ek))) h.spent, h.differ);
  spent = (λ k ek. inr (ap (λ (x : Echo). x.run) (is k ek), omega (arith, ap (λ (x : Echo). x.count) (is k ek))), spent_more run n m before (omega (arith, lt)) h.spent);
})
  where
    is : (k : Echo) → q.echo ≡ Some k → k ≡ number run m
    is k ek = same_Some _ _ (sym ek ∙ eq)

ready_kept : (run n m : ℕ) (before after : List Request) → after ≡ before → n ≤ m → IsReady run n before → IsReady run m after
ready_kept run n m before after e le h = subst (λ s. IsReady run m s) (sym e) (record { differ = h.differ; spent = spent_more run n m before le h.spent })

-- ---- what was sent

pub adds_refl : (may : Request → Type 0) (sent : List Request) → Adds may sent sent
adds_refl may sent = ([], refl, All-nil may)

pub adds_trans : (may : Request → Type 0) (a b c : List Request) → Adds may a b → Adds may b c → Adds may a c
adds_trans may a b c x y = (y.0 ++ x.0, y.1 ∙ ap (λ s. y.0 ++ s) x.1 ∙ sym (append_assoc y.0 x.0 a), All-append may y.0 x.0 y.2 x.2)

adds_next : (may : Request → Type 0) (q : Request) (result : Outcome) (b c : LinkState) → may q → Tries q result b c → Adds may b.sent c.sent
adds_next may q result b c m y = ⊎_elim
    (λ (e : c.sent ≡ q ∷ b.sent). (q ∷ [], e, All-cons may q [] m (All-nil may)))
    (λ (e : (result ≡ outcome.NoMemory) × (c.sent ≡ b.sent)). ([], e.1, All-nil may)) y.sent

-- ---- exchanges of a run

pub asks_refl : (run n : ℕ) (may : Request → Type 0) (t : LinkState) → Asks run n n may t t
asks_refl run n may t = record { moved = moved_refl t; ready = λ r. r; adds = adds_refl may t.sent }

pub asks_trans : {run from mid to : ℕ} {may : Request → Type 0} {a b c : LinkState} → Asks run from mid may a b → Asks run mid to may b c → Asks run from to may a c
asks_trans {run} {from} {mid} {to} {may} {a} {b} {c} first second =
    record { moved = moved_on first.moved second.moved; ready = λ ready. second.ready (first.ready ready); adds = adds_trans may a.sent b.sent c.sent first.adds second.adds }

-- of these requests, so of those
pub asks_weaker : (run from to : ℕ) (may other : Request → Type 0) (a b : LinkState) → ((q : Request) → may q → other q) → Asks run from to may a b → Asks run from to other a b
asks_weaker run from to may other a b f x = let y = x.adds in record { moved = x.moved; ready = x.ready; adds = (y.0, y.1, All-weaker may other f y.0 y.2) }

gives_more : {h left : HubState} {q : Request} {r : Reply} {a b : Type 0} → (a → b) → Gives h left q a r → Gives h left q b r
gives_more f g = elim g [ Wants s ↦ Wants s | Broke s x ↦ Broke s (f x) | Answers at s ↦ Answers at s ]

-- one exchange more of a run: a request under the number `to`, behind those up to `so_far`
module _ {run from so_far to : ℕ} {may : Request → Type 0} {before mid : LinkState} (request : Request) (after : LinkState)
    (under : request.echo ≡ Some (number run to)) (more : so_far < to) (asked : Asks run from so_far may before mid) where
  pub asks_on : (result : Outcome) → may request → Tries request result mid after → Asks run from to may before after
  asks_on result is tried = record {
    moved = record { grew = grew_on asked.moved.grew tried.grew; counts = omega (arith, asked.moved.counts, tried.counts) };
    ready = λ ready. ⊎_elim
        (λ (sent : after.sent ≡ request ∷ mid.sent). ready_more run so_far to request mid.sent after.sent sent under more (asked.ready ready))
        (λ none. ready_kept run so_far to mid.sent after.sent (none.1) (omega (arith, more)) (asked.ready ready)) tried.sent;
    adds = adds_trans may before.sent mid.sent after.sent asked.adds (adds_next may request result mid after is tried);
  }

  own_step : (reply : WireReply) → IsReady run from before.sent → reply.echo ≡ Some (number run to) → IsOwnRead mid after request reply ⊎ IsLateRead mid.sent reply → IsOwnRead before after request reply
  own_step reply ready echo read = ⊎_elim
      (λ (own : IsOwnRead mid after request reply). record {
        reply = own.reply;
        seen = own.seen;
        says = own.says;
        mid = own.mid;
        left = own.left;
        is_hub = own.is_hub;
        from = grew_on asked.moved.grew own.from;
        step = own.step;
        to = own.to;
        gives = gives_more (λ rose. omega (arith, rose, asked.moved.counts)) own.gives;
      })
      (λ (late : IsLateRead mid.sent reply). absurd (not_sent run so_far (number run to) mid.sent refl more (asked.ready ready).spent
      (subst (λ k. SentAs k mid.sent) (same_Some _ _ (sym late.echo ∙ echo)) late.was_sent)))
      read

  pub own_on : (result : Outcome) → Tries request result mid after → IsReady run from before.sent → IfOwn result (λ reply. reply.echo ≡ Some (number run to)) → IfOwn result (λ reply. IsOwnRead before after request reply)
  own_on (outcome.Own reply) tried ready echo = own_step reply ready echo tried.own
  own_on other tried ready echo = tt

pub own_map : (result : Outcome) (P Q : WireReply → Type 0) → ((w : WireReply) → P w → Q w) → IfOwn result P → IfOwn result Q
own_map (outcome.Own w) P Q f x = f w x
own_map other P Q f x = tt

-- the request stands at the head of what was sent
pub sent_last : (q : Request) (result : Outcome) (before after : LinkState) → Tries q result before after → result ≢ outcome.NoMemory → IsLast q after.sent
sent_last q result before after x ne = ⊎_elim
    (λ (e : after.sent ≡ q ∷ before.sent). subst (λ s. IsLast q s) (sym e) refl)
    (λ (no : (result ≡ outcome.NoMemory) × (after.sent ≡ before.sent)). absurd (ne no.0)) x.sent

pub missed_other : outcome.Missed ≡ outcome.NoMemory → ⊥
missed_other e = cc

pub own_other : (w : WireReply) → outcome.Own w ≡ outcome.NoMemory → ⊥
own_other w e = cc

pub none_other : outcome.NoReply ≡ outcome.NoMemory → ⊥
none_other e = cc
