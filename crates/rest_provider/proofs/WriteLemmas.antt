-- The checks of a write put together, and its reply as a step of a hub.
use Rattle.std.proofs.Common.{◌≡◌, ◌⊎◌, ◌&&◌, ℕ, ℤ, Bool, true, false, inl, inr, cond, nat_lt, Option, Some, None}
use Rattle.std.proofs.Common.{Result, Ok, Err, refl, sym, ap, subst, ◌∙◌}
use Rattle.std.specs.Option.{ForSome}
use Rattle.std.specs.Prelude.{is_some}
use Rattle.gradebook_core.specs.Writing.{LedBy, Writes, written_of}
use Rattle.gradebook_core.specs.declared.written.Written.{Written}
use Rattle.hub_core.specs.Steps.{CountsFault, RefusesNothing}
use Rattle.hub_core.specs.declared.hub_error.HubError.{HubError}
use Rattle.hub_core.specs.declared.hub_error.HubError.TheVariants as error
use Rattle.rest_paths.specs.Paths.{IsPath, PathParts as Path}
use Rattle.hub_spec.specs.requests.Requests.{wanted_by}
use Rattle.hub_spec.proofs.Keeping.{step_keeps}
use Rattle.hub_spec.specs.rules.Answers.{Answered, Answers, Entered, Written as WrittenAs, reply_to_write, sent, told}
use Rattle.hub_spec.specs.rules.Answers.{write_of, write_result}
use Rattle.hub_spec.specs.rules.Checks.{Entry, check, entry_of, grant_in, method_refused, refused}
use Rattle.hub_spec.specs.rules.Runs.{ActedOrNot, Acts, Fails, Replied, Steps, Take, WantsMemory}
use Rattle.hub_spec.specs.rules.States.{IsGranted, IsHub}
use Rattle.hub_spec.specs.rules.Verdicts.{Judges, Leads, Refused, Repeat, Same, Verdict}
use Rattle.hub_spec.specs.rules.Wanted.{Wanted, allows, is_write, mark_number, takes_writes}
use Rattle.hub_spec.specs.rules.Written.{done_of, newest_after, state_after}
use Rattle.keeper_memory.specs.Kept.{KeptState}
use Rattle.keeper_memory.specs.Parts.{IsPartOf}
use Rattle.rest_provider.proofs.ReadLemmas.{in_turn}
use Rattle.rest_provider.specs.Replies.{entry, path_allowed, path_checked}
use Rattle.hub_spec.proofs.GrantKeeping.{step_granted}
use Rattle.rest_provider.specs.Steps.{CountsFailed, TakesRequest, error_reply}
use Rattle.rest_provider.specs.Writes.{TakesWrite, asked_at, asked_in_turn, reply_of, stop_reply}
use Rattle.rest_provider.specs.declared.writes.Asked.{Asked}
use Rattle.roster_base.specs.Moments.{IsMoment}
use Rattle.roster_base.specs.Reading.{Fails as FailsWith, ◌>>=◌}
use Rattle.roster_base.specs.declared.refusal.Refusal.{Refusal}
use Rattle.roster_base.specs.declared.refusal.Refusal.TheVariants as refusal
use Rattle.roster_texts.specs.Results.{found_or}
use Rattle.status_info.specs.declared.cause.Cause.TheVariants as cause
use Rattle.status_info.specs.declared.reply.Reply.{Reply}
use Rattle.status_info.specs.declared.request.Request.{Request}
use Rattle.status_info.specs.declared.request.Verb.{Verb}
use Rattle.status_info.specs.declared.request.Verb.TheVariants.{Delete, Get, Head, Other, Put}
use Rattle.version_core.specs.HubStates.{HubState}
use Rattle.version_core.specs.declared.grant_row.GrantRow.{GrantRow}
use Rattle.version_core.specs.declared.mark.Write.{Write}

-- a path that passes its checks takes writes, where the request is one
pub takes : (wanted : Wanted) (path : Path) → is_write wanted.verb ≡ true → path_checked wanted ≡ Ok path → takes_writes path ≡ true
takes wanted path writes passed = from wanted.path passed
  where
    by_verb : (verb : Verb) (p : Path) → is_write verb ≡ true → allows p verb ≡ true → takes_writes p ≡ true
    by_verb Put p w a = a
    by_verb Delete p w a = a
    by_verb Get p w a = cc
    by_verb Head p w a = cc
    by_verb Other p w a = cc

    allowed : (p : Path) (b : Bool) → allows p wanted.verb ≡ b → (check b (method_refused wanted p) >>= (λ _. Ok p)) ≡ Ok path → takes_writes path ≡ true
    allowed p true may e = let same : p ≡ path = cc in subst (λ q. takes_writes q ≡ true) same (by_verb wanted.verb p writes may)
    allowed p false may e = cc

    from : (o : Option Path) → (found_or (refused wanted cause.NoSuchPath) o >>= path_allowed wanted) ≡ Ok path → takes_writes path ≡ true
    from None e = cc
    from (Some p) e = allowed p (allows p wanted.verb) refl e

-- ---- the checks

-- what an entry asks for
abbrev asked_as : Wanted → Entry → Result Asked Reply
asked_as wanted e = Ok (record { by = e.by; write = write_of wanted e.path })

-- behind a caller who is known, the checks stop where scope and mark do
pub behind_caller : (state : HubState) (wanted : Wanted) (path : Path) (by : GrantRow) (stop : Refusal Reply) → found_or (refused wanted cause.NoKnownToken) (grant_in state wanted.token) ≡ Ok by
    → FailsWith stop (write_result state wanted (entry path by)) → FailsWith stop (asked_at state wanted path)
behind_caller state wanted path by refusal.NoMemory known fails = tt
behind_caller state wanted path by (refusal.Fault reply) known fails = rw (known, fails) refl

module _ (state : HubState) (wanted : Wanted) (writes : is_write wanted.verb ≡ true) (at : ℤ) where
  asked_of : Entry → Result Asked Reply
  asked_of e = write_result state wanted e >>= (λ _. asked_as wanted e)

  asked_is : asked_in_turn state wanted ≡ (entry_of state wanted >>= asked_of)
  unfolding asked_of
  asked_is = sym (in_turn state wanted (λ e. write_result state wanted e >>= (λ _. asked_as wanted e)))

  entered : (e : Entry) (reply : Reply) (after : HubState) → WrittenAs state wanted e (write_of wanted e.path) at (write_result state wanted e) reply after → Entered (is_write wanted.verb) state wanted at e reply after
  entered e reply after written = subst (λ b. Entered b state wanted at e reply after) (sym writes) written

  -- a check that fails is the hub's answer, and leaves the state
  pub write_refused : (refusal : Reply) → asked_in_turn state wanted ≡ Err refusal → Answers state wanted at (sent wanted refusal) state
  unfolding Answers asked_of
  write_refused refusal fails = from (entry_of state wanted) (sym asked_is ∙ fails)
    where
      behind : (e : Entry) (r : Result Bool Reply) → (r >>= (λ _. asked_as wanted e)) ≡ Err refusal
          → WrittenAs state wanted e (write_of wanted e.path) at r (sent wanted refusal) state
      behind e (Ok passed) is = cc
      behind e (Err other) is = let same : other ≡ refusal = cc in (ap (sent wanted) (sym same), refl)

      from : (r : Result Entry Reply) → (r >>= asked_of) ≡ Err refusal → Answered state wanted at r (sent wanted refusal) state
      from (Err other) is = let same : other ≡ refusal = cc in (ap (sent wanted) (sym same), refl)
      from (Ok e) is = entered e (sent wanted refusal) state (behind e (write_result state wanted e) is)

  -- where all pass, its verdict is
  pub write_told : (asked : Asked) → asked_in_turn state wanted ≡ Ok asked → (verdict : Verdict) → Judges state asked.by (mark_number wanted.mark) asked.write at verdict
      → Answers state wanted at (sent wanted (reply_to_write state wanted asked.write verdict)) (state_after state asked.by.caller (mark_number wanted.mark) asked.write verdict)
  unfolding Answers asked_of
  write_told asked passes verdict judged = from (entry_of state wanted) (sym asked_is ∙ passes)
    where
      behind : (e : Entry) (r : Result Bool Reply) → (r >>= (λ _. asked_as wanted e)) ≡ Ok asked
          → WrittenAs state wanted e (write_of wanted e.path) at r (sent wanted (reply_to_write state wanted asked.write verdict)) (state_after state asked.by.caller (mark_number wanted.mark) asked.write verdict)
      behind e (Err other) is = cc
      behind e (Ok passed) is =
          let same : record { by = e.by; write = write_of wanted e.path } ≡ asked = cc in
          let by : asked.by ≡ e.by = ap (λ (a : Asked). a.by) (sym same) in
          let write : asked.write ≡ write_of wanted e.path = ap (λ (a : Asked). a.write) (sym same) in (
            verdict,
            subst (λ b. Judges state b (mark_number wanted.mark) (write_of wanted e.path) at verdict) by (subst (λ w. Judges state asked.by (mark_number wanted.mark) w at verdict) write judged),
            ap (λ w. sent wanted (reply_to_write state wanted w verdict)) write,
            (λ i. state_after state (by i).caller (mark_number wanted.mark) (write i) verdict),
          )

      from : (r : Result Entry Reply) → (r >>= asked_of) ≡ Ok asked
          → Answered state wanted at r (sent wanted (reply_to_write state wanted asked.write verdict)) (state_after state asked.by.caller (mark_number wanted.mark) asked.write verdict)
      from (Err other) is = cc
      from (Ok e) is = entered e _ _ (behind e (write_result state wanted e) is)

-- ---- the reply

if_marked : (mark : Option ℕ) → cond (is_some mark) mark None ≡ mark
if_marked None = refl
if_marked (Some n) = refl

if_kept : (mark : Option ℕ) (b : Bool) → cond (is_some mark && b) mark None ≡ cond b mark None
if_kept None true = refl
if_kept None false = refl
if_kept (Some n) true = refl
if_kept (Some n) false = refl

-- what a write is told is the reply to its verdict
pub reply_is : (state : HubState) (wanted : Wanted) (write : Write) (verdict : Verdict) → reply_of wanted (written_of state (mark_number wanted.mark) write verdict) ≡ reply_to_write state wanted write verdict
reply_is state wanted write (Leads version) = ap (λ mark. told wanted mark (newest_after state (Leads version)) (done_of write)) (if_marked (mark_number wanted.mark))
reply_is state wanted write Same = ap (λ mark. told wanted mark (newest_after state Same) (done_of write)) (if_marked (mark_number wanted.mark))
reply_is state wanted write (Repeat kept) = ap (λ mark. told wanted mark kept.version kept.outcome) (if_marked (mark_number wanted.mark))
reply_is state wanted write (Refused number) = ap (λ mark. told wanted mark (newest_after state (Refused number)) number) (if_kept (mark_number wanted.mark) (nat_lt 1 number))

-- ---- the step

module _ (request : Request) (at : ℤ) (moment : IsMoment at) (path : ForSome (wanted_by request).path IsPath) (writes : is_write (wanted_by request).verb ≡ true) where
  abbrev wanted : Wanted
  wanted = wanted_by request

  module _ (asked : Asked) (before after : KeptState) where
    -- a write that is done is a step that doesn't fail
    pub done_step : (written : Written) (reply : Reply) → reply ≡ sent wanted (reply_of wanted written) → Writes asked.by (mark_number wanted.mark) asked.write at (Ok written) before after
        → TakesWrite request at asked reply before after 0
    done_step written reply is_reply made = λ state is part passes.
        let wrote = made state is.state part in
        let verdict = wrote.0 in
        let next = state_after state asked.by.caller (mark_number wanted.mark) asked.write verdict in
        let says : reply ≡ sent wanted (reply_to_write state wanted asked.write verdict) =
        is_reply ∙ ap (λ (w : Written). sent wanted (reply_of wanted w)) wrote.2 ∙ ap (sent wanted) (reply_is state wanted asked.write verdict) in
        let answers : Answers state wanted at reply next = subst (λ r. Answers state wanted at r next) (sym says) (write_told state wanted writes at asked passes verdict wrote.1.judged) in
        let step : Steps (Take wanted at) state (Replied reply) next 0 = Acts (reply, answers, refl) refl in
        (next, step_granted state is wanted at path reply next 0 step, (λ hub. step_keeps state hub (Take wanted at) (moment, path) (Replied reply) next 0 step), wrote.1.led, step)

    -- one whose commit failed has acted or not
    pub failed_write : (reply : Reply) → reply ≡ error_reply wanted error.Keeper → Writes asked.by (mark_number wanted.mark) asked.write at (Err error.Keeper) before after
        → TakesWrite request at asked reply before after 1
    failed_write reply is_reply made = λ state is part passes. from state is passes (made state is.state part)
      where
        from : (state : HubState) → IsGranted state → asked_in_turn state wanted ≡ Ok asked
            → IsPartOf after state ⊎ ((verdict : Verdict) × LedBy asked.by (mark_number wanted.mark) asked.write at state after verdict)
            → (next : HubState) × IsGranted next × (IsHub state → IsHub next) × IsPartOf after next × Steps (Take wanted at) state (Replied reply) next 1
        from state is passes (inl part) = (state, is, (λ hub. hub), part, Fails (inl refl) (ap Replied is_reply) refl)
        from state is passes (inr done) =
            let verdict = done.0 in
            let own = sent wanted (reply_to_write state wanted asked.write verdict) in
            let next = state_after state asked.by.caller (mark_number wanted.mark) asked.write verdict in
            let acted : ActedOrNot (Take wanted at) state next = inr (Replied own, (own, write_told state wanted writes at asked passes verdict done.1.judged, refl)) in
            let step : Steps (Take wanted at) state (Replied reply) next 1 = Fails acted (ap Replied is_reply) refl in
            (next, step_granted state is wanted at path reply next 1 step, (λ hub. step_keeps state hub (Take wanted at) (moment, path) (Replied reply) next 1 step), done.1.led, step)

    -- one for which memory is wanting leaves the state
    pub wanting_write : (reply : Reply) → reply ≡ error_reply wanted error.NoMemory → Writes asked.by (mark_number wanted.mark) asked.write at (Err error.NoMemory) before after
        → TakesWrite request at asked reply before after 0
    wanting_write reply is_reply made = λ state is part passes. (state, is, (λ hub. hub), made state is.state part, WantsMemory (inl refl) (ap Replied is_reply) refl)

  -- so one that gave no answer is a step, which fails where the keeper did
  pub error_step : (now then : ℕ) (asked : Asked) (before : KeptState) (e : HubError) (reply : Reply) → reply ≡ error_reply wanted e
      → CountsFault {T = Written} now then (Err e) → RefusesNothing {T = Written} (Err e)
      → (failed : ℕ) × CountsFailed now then failed
      × ((after : KeptState) → Writes asked.by (mark_number wanted.mark) asked.write at (Err e) before after → TakesWrite request at asked reply before after failed)
  error_step now then asked before error.Keeper reply is_reply counts refuses = (1, inr (refl, counts), λ after made. failed_write asked before after reply is_reply made)
  error_step now then asked before error.NoMemory reply is_reply counts refuses = (0, inl (refl, counts), λ after made. wanting_write asked before after reply is_reply made)
  error_step now then asked before (error.Refused fault) reply is_reply counts refuses = absurd refuses

-- a write that fails a check leaves the state
refused_step : (request : Request) (at : ℤ) (kept : KeptState) (refusal reply : Reply) → is_write (wanted_by request).verb ≡ true → reply ≡ sent (wanted_by request) refusal
    → ((state : HubState) → IsGranted state → IsPartOf kept state → asked_in_turn state (wanted_by request) ≡ Err refusal) → TakesRequest request at reply kept kept 0
refused_step request at kept refusal reply writes is_reply fails = λ state is part.
    let answers : Answers state (wanted_by request) at reply state =
    subst (λ r. Answers state (wanted_by request) at r state) (sym is_reply) (write_refused state (wanted_by request) writes at refusal (fails state is part)) in
    (state, is, (λ hub. hub), part, Acts (reply, answers, refl) refl)

-- and so does one that is stopped for want of memory
pub stopped_step : (request : Request) (at : ℤ) (kept : KeptState) (stop : Refusal Reply) (reply : Reply) → is_write (wanted_by request).verb ≡ true → reply ≡ stop_reply (wanted_by request) stop
    → ((state : HubState) → IsGranted state → IsPartOf kept state → FailsWith stop (asked_in_turn state (wanted_by request))) → TakesRequest request at reply kept kept 0
stopped_step request at kept (refusal.Fault refused_by) reply writes is_reply fails = refused_step request at kept refused_by reply writes is_reply fails
stopped_step request at kept refusal.NoMemory reply writes is_reply fails = λ state is part. (state, is, (λ hub. hub), part, WantsMemory (inl refl) (ap Replied is_reply) refl)
