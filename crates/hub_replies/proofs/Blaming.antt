-- No answer of the hub's own says that its store failed.
use Rattle.std.proofs.Common.{◌≡◌, ℕ, ℤ, zero, suc, List, [], ◌∷◌, Bool, true, false, Option, None, Some, Result, Ok}
use Rattle.std.proofs.Common.{Err, cond, slice_index_or, refl, sym, ap, subst, ◌∙◌}
use Rattle.std.specs.Prelude.{⊤}
use Rattle.filter_grammar.specs.Queries.{query_of}
use Rattle.filter_grammar.specs.declared.fault.QueryFault.{QueryFault}
use Rattle.filter_grammar.specs.declared.fault.QueryFault.TheVariants as fault
use Rattle.filter_grammar.specs.declared.query.Query.{Query}
use Rattle.filter_grammar.specs.Causes.{cause_of as cause_of_query}
use Rattle.grant_scopes.specs.Opens.{opens}
use Rattle.hub_replies.proofs.Checking.{EitherIs, IfRefused, check_is, either_is, found_is, then_either, then_is}
use Rattle.hub_spec.specs.requests.Requests.{query_for_path, query_or_cause, wanted_by}
use Rattle.hub_spec.specs.rules.Answers.{Answered, Answers, Entered, Written, cause_of, causes, reply_to_write}
use Rattle.hub_spec.specs.rules.Answers.{write_of, write_result}
use Rattle.hub_spec.specs.rules.Checks.{Entry, base_checked, base_refused, check, entry_of, grant_in, is_base, may_read}
use Rattle.hub_spec.specs.rules.Checks.{method_refused, pin_refused, query_or, refused, refused_at, version_read}
use Rattle.hub_spec.specs.rules.Reads.{Contents, contents_at, read_at, read_result}
use Rattle.hub_spec.specs.rules.Runs.{Acts, Answer, Fails, Replied, Steps, Take, WantsMemory}
use Rattle.hub_spec.specs.rules.Verdicts.{Leads, Refused, Repeat, Same, Verdict}
use Rattle.hub_spec.specs.rules.Wanted.{Wanted, access_of, allows, is_good_mark, is_write}
use Rattle.hub_spec.specs.rules.Written.{done_of}
use Rattle.hub_spec.specs.views.Links.{base_for}
use Rattle.hub_spec.specs.views.Lists.{kind_of_path}
use Rattle.rest_paths.specs.Paths.{PathParts}
use Rattle.roster_texts.specs.Results.{found_or}
use Rattle.status_info.specs.declared.cause.Cause.{Cause}
use Rattle.status_info.specs.declared.cause.Cause.TheVariants as cause
use Rattle.status_info.specs.declared.reply.Reply.{Reply}
use Rattle.status_info.specs.declared.request.Request.{Request}
use Rattle.version_core.specs.HubStates.{HubState, newest_number}

abbrev blames : Cause → Bool
blames cause.StoreFailed = true
blames _ = false

abbrev Spares : Reply → Type 0
Spares reply = blames reply.cause ≡ false

abbrev AllSpare : List Cause → Type 0
AllSpare [] = ⊤
AllSpare (why ∷ more) = (blames why ≡ false) × AllSpare more

one_spares : (all : List Cause) (other : Cause) → AllSpare all → blames other ≡ false → (at : ℕ) → blames (slice_index_or all at other) ≡ false
one_spares [] other spare none at = none
one_spares (why ∷ more) other spare none zero = spare.0
one_spares (why ∷ more) other spare none (suc at) = one_spares more other spare.1 none at

outcome_spares : (outcome : ℕ) → blames (cause_of outcome) ≡ false
outcome_spares = one_spares causes cause.Stored (refl, (refl, (refl, (refl, (refl, (refl, (refl, (refl, (refl, (refl, tt)))))))))) refl

query_spares : (why : QueryFault) → blames (cause_of_query why) ≡ false
query_spares fault.Escape = refl
query_spares fault.Limit = refl
query_spares fault.Offset = refl
query_spares fault.OrderBy = refl
query_spares fault.FilterForm = refl
query_spares fault.FilterField = refl
query_spares fault.FilterValue = refl
query_spares fault.EmptyFields = refl
query_spares fault.Version = refl
query_spares fault.Repeated = refl
query_spares fault.Since = refl

module _ (request : Request) (state : HubState) where
  abbrev wanted : Wanted
  wanted = wanted_by request

  entry_spares : IfRefused Spares (entry_of state wanted)
  entry_spares =
      then_is Spares (found_or (refused wanted cause.NoSuchPath) wanted.path) _ (found_is Spares (refused wanted cause.NoSuchPath) wanted.path refl) (λ path _.
      then_is Spares (check (allows path wanted.verb) (method_refused wanted path)) _ (check_is Spares (allows path wanted.verb) (method_refused wanted path) refl) (λ _ _.
      then_is Spares (found_or (refused wanted cause.NoKnownToken) (grant_in state wanted.token)) _ (found_is Spares (refused wanted cause.NoKnownToken) (grant_in state wanted.token) refl) (λ by _. tt)))

  module _ (entry : Entry) where
    version_spares : (pin : Option ℕ) → IfRefused Spares (version_read state entry.by wanted pin)
    version_spares None = tt
    version_spares (Some pin) = elim (may_read state entry.by pin) as (λ b. IfRefused Spares (cond b (Ok pin) (Err (pin_refused state entry.by wanted)))) [ true ↦ tt | false ↦ refl ]

    query_or_spares : (version : ℕ) → IfRefused Spares (query_or wanted version wanted.query)
    query_or_spares version = by wanted.path
      where
        read : (r : Result Query QueryFault) → IfRefused Spares (query_or wanted version (query_or_cause r))
        read (Ok query) = tt
        read (Err why) = query_spares why

        by : (path : Option PathParts) → IfRefused Spares (query_or wanted version (query_for_path request.query path))
        by None = refl
        by (Some path) = read (query_of (kind_of_path path) request.query)

    base_spares : (version : ℕ) (base : Option ℕ) → IfRefused Spares (base_checked state entry.by wanted version base)
    base_spares version None = tt
    base_spares version (Some base) = check_is Spares (is_base state entry.by version base) (base_refused state entry.by wanted version) refl

    at_spares : (version : ℕ) → EitherIs Spares (read_at state wanted entry version)
    unfolding read_at
    at_spares version =
        let base : Query → Option ℕ = λ query. base_for entry.path.route query.since in
        let contents : Query → Option Contents = λ query. contents_at state entry version query (base query) in
        then_either Spares (check (opens entry.by.grant.scopes (kind_of_path entry.path) (access_of wanted.verb)) (refused_at wanted version cause.ScopeMissing)) _
        (check_is Spares (opens entry.by.grant.scopes (kind_of_path entry.path) (access_of wanted.verb)) (refused_at wanted version cause.ScopeMissing) refl) (λ _ _.
        then_either Spares (query_or wanted version wanted.query) _ (query_or_spares version) (λ query _.
        then_either Spares (base_checked state entry.by wanted version (base query)) _ (base_spares version (base query)) (λ _ _.
        then_either Spares (check (is_good_mark wanted.mark) (refused_at wanted version cause.BadMark)) _ (check_is Spares (is_good_mark wanted.mark) (refused_at wanted version cause.BadMark) refl) (λ _ _.
        then_either Spares (found_or (refused_at wanted version cause.NoSuchObject) (contents query)) _ (found_is Spares (refused_at wanted version cause.NoSuchObject) (contents query) refl) (λ shown _. refl)))))

    write_spares : IfRefused Spares (write_result state wanted entry)
    write_spares =
        then_is Spares (check (opens entry.by.grant.scopes (kind_of_path entry.path) (access_of wanted.verb)) (refused_at wanted (newest_number state) cause.ScopeMissing)) _
        (check_is Spares (opens entry.by.grant.scopes (kind_of_path entry.path) (access_of wanted.verb)) (refused_at wanted (newest_number state) cause.ScopeMissing) refl)
        (λ _ _. check_is Spares (is_good_mark wanted.mark) (refused_at wanted (newest_number state) cause.BadMark) refl)

    verdict_spares : (verdict : Verdict) → Spares (reply_to_write state wanted (write_of wanted entry.path) verdict)
    verdict_spares (Leads next) = outcome_spares (done_of (write_of wanted entry.path))
    verdict_spares Same = outcome_spares (done_of (write_of wanted entry.path))
    verdict_spares (Repeat kept) = outcome_spares kept.outcome
    verdict_spares (Refused number) = outcome_spares number

    written_spares : (at : ℤ) (reply : Reply) (after : HubState) (r : Result Bool Reply) → IfRefused Spares r → Written state wanted entry (write_of wanted entry.path) at r reply after → Spares reply
    written_spares at reply after (Err refusal) spares written = subst Spares (sym written.0) spares
    written_spares at reply after (Ok passed) spares written = subst Spares (sym written.2) (verdict_spares written.0)

    entered_spares : (b : Bool) (at : ℤ) (reply : Reply) (after : HubState) → Entered b state wanted at entry reply after → Spares reply
    entered_spares true at reply after entered = written_spares at reply after (write_result state wanted entry) write_spares entered
    entered_spares false at reply after entered =
        subst Spares (sym entered.0) (either_is Spares (read_result state wanted entry) (then_either Spares (version_read state entry.by wanted wanted.pin) (read_at state wanted entry) (version_spares wanted.pin) (λ version _. at_spares version)))

  answered_spares : (at : ℤ) (reply : Reply) (after : HubState) (r : Result Entry Reply) → IfRefused Spares r → Answered state wanted at r reply after → Spares reply
  answered_spares at reply after (Err refusal) spares answered = subst Spares (sym answered.0) spares
  answered_spares at reply after (Ok entry) spares answered = entered_spares entry (is_write wanted.verb) at reply after answered

  answer_spares : (at : ℤ) (reply : Reply) (after : HubState) → Answers state wanted at reply after → Spares reply
  unfolding Answers
  answer_spares at reply after answers = answered_spares at reply after (entry_of state wanted) entry_spares answers

  abbrev reply_in : Answer → Reply → Reply
  reply_in (Replied r) other = r
  reply_in answer other = other

  -- a step whose reply says so is one in which it failed
  pub step_blames : (at : ℤ) (reply : Reply) (after : HubState) (failed : ℕ) → Steps (Take wanted at) state (Replied reply) after failed → reply.cause ≡ cause.StoreFailed → failed ≡ 1
  step_blames at reply after failed (Acts does none) said =
      let same : reply ≡ does.0 = ap (λ a. reply_in a reply) does.2 in
      let spares = subst Spares (sym same) (answer_spares at does.0 after does.1) in
      absurd (let blamed : true ≡ false = ap blames (sym said) ∙ spares in cc)
  step_blames at reply after failed (Fails acted is once) said = once
  step_blames at reply after failed (WantsMemory wants is none) said =
      absurd (let spares : blames reply.cause ≡ false = ap (λ a. blames (reply_in a reply).cause) is in let blamed : true ≡ false = ap blames (sym said) ∙ spares in cc)
