-- What an exchange over a world tells.
use Rattle.std.proofs.Common.{◌≡◌, ℕ, ℤ, ◌⊎◌, inl, inr, Bool, true, false, List, [], ◌∷◌, ◌++◌, Result, Ok, Err, IfOk}
use Rattle.std.proofs.Common.{OnOk, reverse, refl, sym, ap, subst, ◌∙◌, arith}
use Rattle.std.proofs.lemmas.List.{map-append, reverse-append}
use Rattle.exchange_link.specs.Exchanges.{Carries, Exchanged, IsOwn, LinkState}
use Rattle.http_wire.proofs.WrittenLemmas.{written_is_read}
use Rattle.http_wire.specs.Answers.{IsReplyText}
use Rattle.http_wire.specs.Seen.{seen_of}
use Rattle.hub_replies.proofs.ReplyLemmas.{step_readable}
use Rattle.hub_spec.specs.requests.Requests.{wanted_by}
use Rattle.hub_spec.proofs.Growing.{Grew-refl, Grew-trans}
use Rattle.hub_spec.specs.rules.Runs.{Replied, Steps, Take}
use Rattle.hub_spec.specs.rules.States.{IsHub}
use Rattle.outside_ports.specs.declared.failed.IoError.{IoError}
use Rattle.outside_ports.specs.declared.failed.IoError.TheVariants as io_error
use Rattle.rest_provider.specs.Steps.{CountsFailed}
use Rattle.roster_base.specs.Faults.{Rose, one_more}
use Rattle.status_info.specs.declared.reply.Reply.{Reply}
use Rattle.status_info.specs.declared.request.Request.{Request}
use Rattle.sync_world.specs.Links.{HeldLink, world_state, world_of}
use Rattle.sync_world.specs.Deliveries.{Carried}
use Rattle.sync_world.specs.Planned.{fate_at}
use Rattle.sync_world.specs.Traffic.{Counts, Keeps, LinkLeads, Round, scene_of}
use Rattle.sync_world.specs.declared.traffic.Fate.{Fate}
use Rattle.sync_world.specs.Own.{IsOwnText}
use Rattle.exchange_link.specs.Exchanges.{IsLate}
use Rattle.http_wire.specs.Sending.{CanSend, IsSentEcho}
use Rattle.std.specs.List.{AllByRecursion}
use Rattle.std.specs.Prelude.{IfSome, IsOkAnd, IsSomeAnd, Option, Some, None, map}
use Rattle.status_info.specs.declared.request.Echo.{Echo}
use Rattle.version_core.proofs.VersionLemmas.{AllByRecursion-push}
use Rattle.sync_world.specs.Given.{AreGiven, IsGiven, is_stale, requests_in}
use Rattle.sync_world.specs.declared.past.Past.{Past}
use Rattle.sync_world.proofs.WalkLemmas.{walk_grew}
use Rattle.sync_world.specs.Walks.{Walks}
use Rattle.sync_world.specs.Worlds.{HeldWorld}

-- by whether the reply of another exchange comes
pub by_stale : {P : Type 0} (stale : Bool) → (stale ≡ true → P) → (stale ≡ false → P) → P
by_stale true late own = late refl
by_stale false late own = own refl

rises : (before now failed : ℕ) → CountsFailed before now failed → failed ≡ 1 → Rose before now
rises before now failed (inl (none, same)) once = absurd (omega (arith, none, once))
rises before now failed (inr (one, more)) once = omega (arith, more)

-- the text of the reply of a step is the hub's own
pub is_own : (request : Request) (at : ℤ) (reply : Reply) (text : List ℕ) (before after : HeldWorld) (failed : ℕ) (xs ys : List Request) → CanSend request → IsHub before.state → IsOwnText reply text
    → Steps (Take (wanted_by request) at) before.state (Replied reply) after.state failed → CountsFailed before.faults after.faults failed → IsOwn (world_state xs before) (world_state ys after) request text
is_own request at reply text before after failed xs ys can hub own step counts = let good = step_readable request can before.state hub at reply after.state failed step in record {
  reply = reply;
  text_is = own.text_is;
  read = good.read;
  says = own.says;
  echo = good.echo;
  taken_at = before.state;
  left = after.state;
  is_hub = hub;
  from = Grew-refl before.state;
  to = Grew-refl after.state;
  at = at;
  failed = failed;
  step = step;
  broke = rises before.faults after.faults failed counts;
}

-- and has the request's number
pub own_carries : (before after : HeldWorld) (q : Request) (text : List ℕ) → IsOwn (world_state [] before) (world_state [] after) q text → Carries text q.echo
own_carries before after q text own = (seen_of own.reply, subst (λ (t : List ℕ). IsReplyText t (seen_of own.reply)) (sym own.text_is) (written_is_read own.reply own.read), own.echo)

-- the request that was sent last stands first
pub newest_first : (sent sent' : List Request) (q : Request) → sent' ≡ sent ++ q ∷ [] → reverse sent' ≡ q ∷ reverse sent
newest_first sent sent' q more = ap reverse more ∙ reverse-append sent (q ∷ [])

on_ok : (A B : Type 0) (result : Result (Unit {0}) IoError) → OnOk result A → OnOk result (A ⊎ B)
on_ok A B (Ok done) here = inl here
on_ok A B (Err e) here = tt

-- what came is an exchange
pub exchanged : {q : Request} {result : Result (Unit {0}) IoError} {rose : Type 0} {kept : List ℕ} {sent sent' : List Request} {before now : HeldWorld} {after : LinkState} → Walks before now
    → (sent' ≡ q ∷ sent) ⊎ ((result ≡ Err io_error.NoMemory) × (sent' ≡ sent)) → OnOk result (IsOwn (world_state sent before) (world_state sent' now) q kept ⊎ (rose × IsLate sent kept))
    → after ≡ world_state sent' now → Exchanged q result rose kept (world_state sent before) after
exchanged {q} {result} {rose} {kept} {sent} {sent'} {before} {now} {after} walks sends replies same =
    subst (Exchanged q result rose kept (world_state sent before)) (sym same) (record { grew = walk_grew before now walks; sent = sends; counts = walks.by.counts; replies = replies })

-- ---- what others did before

-- an own reply after more has come to pass
pub own_from : (xs ys : List Request) (first before after : HeldWorld) (q : Request) (text : List ℕ) → Walks first before
    → IsOwn (world_state xs before) (world_state ys after) q text → IsOwn (world_state xs first) (world_state ys after) q text
own_from xs ys first before after q text walks own = record {
  reply = own.reply;
  text_is = own.text_is;
  read = own.read;
  says = own.says;
  echo = own.echo;
  taken_at = own.taken_at;
  left = own.left;
  is_hub = own.is_hub;
  from = Grew-trans first.state before.state own.taken_at (walk_grew first before walks) own.from;
  to = own.to;
  at = own.at;
  failed = own.failed;
  step = own.step;
  broke = λ once. let rose = own.broke once in omega (arith, rose, walks.by.counts);
}

-- ---- exchanges of the past

-- the request that is noted last is the newest
pub noted : (past past' : List Past) (made : Past) → past' ≡ past ++ made ∷ [] → requests_in past' ≡ made.request ∷ requests_in past
noted past past' made more =
    ap requests_in more ∙ ap reverse (map-append (λ (p : Past). p.request) past (made ∷ [])) ∙ reverse-append (map (λ (p : Past). p.request) past) (made.request ∷ [])

late_more : (sent : List Request) (q : Request) (text : List ℕ) → IsLate sent text → IsLate (q ∷ sent) text
late_more sent q text late = record { reply = late.reply; text_is = late.text_is; read = late.read; to = late.to; was_sent = inr late.was_sent; echo = late.echo }

given_one : {T : Type 0} (shown : T → List ℕ) (sent : List Request) (q : Request) (reply : Option T) → IfSome reply (λ text. IsLate sent (shown text)) → IfSome reply (λ text. IsLate (q ∷ sent) (shown text))
given_one shown sent q None given = tt
given_one shown sent q (Some text) given = late_more sent q (shown text) given

given_more : (sent : List Request) (q : Request) (past : List Past) → AllByRecursion (IsGiven sent) past → AllByRecursion (IsGiven (q ∷ sent)) past
given_more sent q [] given = tt
given_more sent q (made ∷ past) given = (given_one (λ text. text.items) sent q made.reply given.0, given_more sent q past given.1)

-- the exchange that is noted last is one of these too
pub given_noted : (past past' : List Past) (made : Past) → past' ≡ past ++ made ∷ [] → AreGiven past → IsGiven (made.request ∷ requests_in past) made → AreGiven past'
given_noted past past' made more given here =
    subst (λ (sent : List Request). AllByRecursion (IsGiven sent) past') (sym (noted past past' made more))
    (subst (λ (ps : List Past). AllByRecursion (IsGiven (made.request ∷ requests_in past)) ps) (sym more)
    (AllByRecursion-push (IsGiven (made.request ∷ requests_in past)) past made (given_more (requests_in past) made.request past given) here))

-- an own reply is one to a request that was sent
pub own_late : (xs : List Request) (before after : HeldWorld) (q : Request) (sent : List Request) (text : List ℕ) → CanSend q → IsOwn (world_state xs before) (world_state xs after) q text → IsLate (q ∷ sent) text
own_late xs before after q sent text can own = by_echo q.echo refl can.echo
  where
    by_echo : (echo : Option Echo) → q.echo ≡ echo → IsSomeAnd echo IsSentEcho → IsLate (q ∷ sent) text
    by_echo None is none = absurd none
    by_echo (Some n) is sent_echo = record { reply = own.reply; text_is = own.text_is; read = own.read; to = n; was_sent = inl is; echo = own.echo ∙ is }

-- a reply that came, or would have come, is one to a request that was sent
pub reply_late : {V E : Type 0} (items : V → List ℕ) (r : Result V E) (stale : Bool) (xs : List Request) (before after : HeldWorld) (q : Request) (sent : List Request) → CanSend q
    → (stale ≡ false → IfOk r (λ v. IsOwn (world_state xs before) (world_state xs after) q (items v))) → (stale ≡ true → IfOk r (λ v. IsLate sent (items v))) → IfOk r (λ v. IsLate (q ∷ sent) (items v))
reply_late items (Ok v) stale xs before after q sent can own late =
    by_stale stale (λ e. late_more sent q (items v) (late e)) (λ e. own_late xs before after q sent (items v) can (own e))
reply_late items (Err e) stale xs before after q sent can own late = tt

-- what is so of the reply is so of what came of it
pub came_as : {V E : Type 0} (items : V → List ℕ) (P : List ℕ → Type 0) (came reply : Result V E) → IfOk came (λ t. IsOkAnd reply (λ o. items t ≡ items o)) → IfOk reply (λ o. P (items o)) → IfOk came (λ t. P (items t))
came_as items P (Ok t) (Ok o) same here = subst P (sym same) here
came_as items P (Ok t) (Err e) same here = absurd same
came_as items P (Err e) reply same here = tt

pub ok_at : {V E : Type 0} (P : V → Type 0) (r : Result V E) (v : V) → r ≡ Ok v → IfOk r P → P v
ok_at {V} {E} P r v is here = subst (λ (x : Result V E). IfOk x P) is here

-- what is so of each value of a result is so of the one that it has
pub if_ok_each : {X E : Type 0} (P Q : X → Type 0) (result : Result X E) → ((x : X) → P x → Q x) → IfOk result P → IfOk result Q
if_ok_each P Q (Ok x) each here = each x here
if_ok_each P Q (Err e) each here = tt

-- ---- exchanges one behind another

pub counts_as : (fault : Bool) (before after : ℕ) → (fault ≡ true → Rose before after) → (fault ≡ false → after ≡ before) → Counts fault before after
counts_as true before after rose quiet = rose refl
counts_as false before after rose quiet = quiet refl

pub sure : {A B : Type 0} → A ⊎ B → ¬ B → A
sure (inl a) none = a
sure (inr b) none = absurd (none b)

-- where no request was noted, none was sent
pub noted_or : (past past' : List Past) (q : Request) (broken broken' : Type 0) → (broken → broken') → (requests_in past' ≡ q ∷ requests_in past) ⊎ (broken × (past' ≡ past))
    → (requests_in past' ≡ q ∷ requests_in past) ⊎ (broken' × (requests_in past' ≡ requests_in past))
noted_or past past' q broken broken' into (inl sent) = inl sent
noted_or past past' q broken broken' into (inr (is, same)) = inr (into is, ap requests_in same)

-- what every exchange of a link leaves
pub record GoesOn (old new : HeldLink) : Type 0 where
  pub walks : Walks (world_of old) (world_of new)
  pub clock : new.clock ≡ old.clock
  pub fates : new.fates ≡ old.fates

-- what was carried with the number and the fate that were planned
carried_as : (old new : HeldLink) (q : Request) (came : Option (List ℕ)) (fate : Fate) (number : ℕ) → number ≡ new.asked → fate ≡ fate_at old.fates new.asked
    → Carried (record { number = number; at = old.clock; fate = fate }) q (scene_of old) (scene_of new) came
    → Carried (record { number = new.asked; at = old.clock; fate = fate_at old.fates new.asked }) q (scene_of old) (scene_of new) came
carried_as old new q came fate number is_number is_fate carried =
    subst (λ (f : Fate). Carried (record { number = new.asked; at = old.clock; fate = f }) q (scene_of old) (scene_of new) came) is_fate
    (subst (λ (n : ℕ). Carried (record { number = n; at = old.clock; fate = fate }) q (scene_of old) (scene_of new) came) is_number carried)

-- one that wanted no memory
pub came_leads : {old new : HeldLink} {q : Request} {came : Option (List ℕ)} {fate : Fate} {number : ℕ} → GoesOn old new → number ≡ one_more old.asked → new.asked ≡ one_more old.asked
    → fate ≡ fate_at old.fates number → new.sent ≡ q ∷ old.sent → new.wanted ≡ old.wanted
    → Carried (record { number = number; at = old.clock; fate = fate }) q (scene_of old) (scene_of new) came → Keeps (is_stale fate) came old new → LinkLeads old new
came_leads {old} {new} {q} {came} {fate} {number} on is_number asked is_fate sent wanted carried keeps =
    let same : number ≡ new.asked = is_number ∙ sym asked in
    let planned : fate ≡ fate_at old.fates new.asked = is_fate ∙ ap (fate_at old.fates) same in
    let round : Round old new = record {
      asked = asked;
      request = q;
      came = came;
      carried = carried_as old new q came fate number same planned carried;
      keeps = subst (λ (f : Fate). Keeps (is_stale f) came old new) planned keeps;
      clock = on.clock;
      fates = on.fates;
    } in
    record { walks = on.walks; more = q ∷ []; sent = sent; clock = on.clock; fates = on.fates; rounds = λ none. (sym wanted ∙ none, (new ∷ [], (round, refl))) }

-- and one that wanted memory
pub broken_leads : {old new : HeldLink} {q : Request} {broken : Type 0} → GoesOn old new → (new.sent ≡ q ∷ old.sent) ⊎ (broken × (new.sent ≡ old.sent)) → new.wanted ≡ true → LinkLeads old new
broken_leads {old} {new} {q} {broken} on (inl sent) wanted =
    record { walks = on.walks; more = q ∷ []; sent = sent; clock = on.clock; fates = on.fates; rounds = λ none. absurd (cc (none, wanted)) }
broken_leads {old} {new} {q} {broken} on (inr (is, same)) wanted =
    record { walks = on.walks; more = []; sent = same; clock = on.clock; fates = on.fates; rounds = λ none. absurd (cc (none, wanted)) }
