-- What comes to pass at an exchange, event by event.
use Rattle.std.proofs.Common.{◌≡◌, ℕ, ℤ, Bool, true, false, cond, List, [], ◌∷◌, ◌++◌, Option, Some}
use Rattle.std.proofs.Common.{None, refl, sym, ap, subst, ◌∙◌}
use Rattle.std.proofs.lemmas.Grind.{flat_map-append}
use Rattle.std.proofs.lemmas.List.{append_assoc, append-nil}
use Rattle.std.specs.Prelude.{filter, not}
use Rattle.hub_spec.specs.requests.Requests.{wanted_by}
use Rattle.hub_spec.specs.rules.Runs.{Replied, Step, Take}
use Rattle.keeper_memory.specs.Calls.{CallsLead}
use Rattle.status_info.specs.declared.reply.Reply.{Reply}
use Rattle.status_info.specs.declared.request.Request.{Request}
use Rattle.sync_world.proofs.WalkLemmas.{by_step}
use Rattle.sync_world.specs.Acts.{Acted, Done, TakesOne, once}
use Rattle.sync_world.specs.Happenings.{AreHappenings, IsHappening, IsTakenAgain, Passed, said_of, steps_of}
use Rattle.sync_world.specs.Planned.{IsTakenOut, events_aside, events_at, is_at}
use Rattle.sync_world.specs.Walks.{WalksBy, by_both, by_none}
use Rattle.sync_world.specs.Worlds.{HeldWorld, IsCounted}
use Rattle.sync_world.specs.declared.acts.Saying.{Saying}
use Rattle.sync_world.specs.declared.past.Past.{Past}
use Rattle.sync_world.specs.declared.traffic.Event.{Event}

-- ---- one event

-- a request that was sent is taken again
pub taken_again : (at : ℤ) (asked : Option Request) (request : Request) (reply : Reply) (before after : HeldWorld) (said : List Saying) → IsCounted before → asked ≡ Some request
    → TakesOne request at reply before after → CallsLead before.plan after.plan
    → Acted (IsTakenAgain at asked) before after said said
taken_again at asked request reply before after said fits is (failed, count, step) calls = subst (λ (o : Option Request). Acted (IsTakenAgain at o) before after said said) (sym is) (record {
  done = once (Take (wanted_by request) at) (Replied reply) after.state [];
  is = (reply, after.state, refl);
  by = by_step (Take (wanted_by request) at) (Replied reply) before after failed fits count step calls;
  told = sym (append-nil said);
})

-- and one that wasn't sent is not
pub not_taken : (at : ℤ) (asked : Option Request) (world : HeldWorld) (said : List Saying) → asked ≡ None → Acted (IsTakenAgain at asked) world world said said
not_taken at asked world said is = subst (λ (o : Option Request). Acted (IsTakenAgain at o) world world said said) (sym is) (record {
  done = record { steps = []; said = [] };
  is = refl;
  by = by_none world;
  told = sym (append-nil said);
})

-- ---- one behind another

happenings_more : (past : List Past) (at : ℤ) (events : List Event) (dones : List Done) (event : Event) (done : Done) → AreHappenings past at events dones → IsHappening past at event.happening done
    → AreHappenings past at (events ++ event ∷ []) (dones ++ done ∷ [])
happenings_more past at [] dones event done are here = subst (λ (ds : List Done). AreHappenings past at (event ∷ []) (ds ++ done ∷ [])) (sym are) (here, refl)
happenings_more past at (first ∷ events) [] event done are here = absurd are
happenings_more past at (first ∷ events) (one ∷ dones) event done are here = (are.0, happenings_more past at events dones event done are.1 here)

steps_more : (dones : List Done) (done : Done) → steps_of (dones ++ done ∷ []) ≡ steps_of dones ++ done.steps
steps_more dones done = flat_map-append (λ (d : Done). d.steps) dones (done ∷ []) ∙ ap (λ (s : List Step). steps_of dones ++ s) (append-nil done.steps)

said_more : (dones : List Done) (done : Done) → said_of (dones ++ done ∷ []) ≡ said_of dones ++ done.said
said_more dones done = flat_map-append (λ (d : Done). d.said) dones (done ∷ []) ∙ ap (λ (s : List Saying). said_of dones ++ s) (append-nil done.said)

pub passed_none : (past : List Past) (at : ℤ) (world : HeldWorld) (said : List Saying) → Passed past at [] world world said said
passed_none past at world said = record { dones = []; are = refl; by = by_none world; told = sym (append-nil said) }

passed_more : (past : List Past) (at : ℤ) (events : List Event) (event : Event) (before mid after : HeldWorld) (said said' said'' : List Saying) → Passed past at events before mid said said'
    → Acted (IsHappening past at event.happening) mid after said' said'' → Passed past at (events ++ event ∷ []) before after said said''
passed_more past at events event before mid after said said' said'' passed acted = record {
  dones = passed.dones ++ acted.done ∷ [];
  are = happenings_more past at events passed.dones event acted.done passed.are acted.is;
  by = subst (λ (steps : List Step). WalksBy steps before after) (sym (steps_more passed.dones acted.done)) (by_both (steps_of passed.dones) acted.done.steps before mid after passed.by acted.by);
  told = acted.told ∙ ap (λ (s : List Saying). s ++ acted.done.said) passed.told ∙ append_assoc said (said_of passed.dones) acted.done.said
      ∙ ap (λ (s : List Saying). said ++ s) (sym (said_more passed.dones acted.done));
}

-- ---- the events of one exchange

-- of all that are planned, the first ones of the exchange came to pass, and were taken out
pub record SoPassed (past : List Past) (at : ℤ) (exchange : ℕ) (first now : List Event) (before mid : HeldWorld) (said said' : List Saying) : Type 0 where
  pub front : List Event
  pub split : events_at exchange first ≡ front ++ events_at exchange now
  pub aside : events_aside exchange now ≡ events_aside exchange first
  pub passed : Passed past at front before mid said said'

pub so_begins : (past : List Past) (at : ℤ) (exchange : ℕ) (first : List Event) (world : HeldWorld) (said : List Saying) → SoPassed past at exchange first first world world said said
so_begins past at exchange first world said = record { front = []; split = refl; aside = refl; passed = passed_none past at world said }

all_aside : {X : Type 0} (p : X → Bool) (xs : List X) → filter p xs ≡ [] → filter (λ x. not (p x)) xs ≡ xs
all_aside p [] none = refl
all_aside p (x ∷ xs) none =
    elim (p x) as (λ b. cond b (x ∷ filter p xs) (filter p xs) ≡ [] → cond (not b) (x ∷ filter (λ y. not (p y)) xs) (filter (λ y. not (p y)) xs) ≡ x ∷ xs) [
      | true ↦ λ e. absurd (cc e)
      | false ↦ λ e. ap (λ ys. x ∷ ys) (all_aside p xs e)
    ] none

module _ {past : List Past} {at : ℤ} {exchange : ℕ} {first now : List Event} {before mid : HeldWorld} {said said' : List Saying} (so : SoPassed past at exchange first now before mid said said') where
  pub so_on : {next : List Event} {after : HeldWorld} {said'' : List Saying} (event : Event) → IsTakenOut exchange now next (Some event) → Acted (IsHappening past at event.happening) mid after said' said'' → SoPassed past at exchange first next before after said said''
  so_on {next} {after} {said''} event out acted = record {
    front = so.front ++ event ∷ [];
    split = so.split ∙ ap (λ (events : List Event). so.front ++ events) out.0 ∙ sym (append_assoc so.front (event ∷ []) (events_at exchange next));
    aside = out.1 ∙ so.aside;
    passed = passed_more past at so.front event before mid after said said' said'' so.passed acted;
  }

  -- none is left
  pub all_passed : {next : List Event} → IsTakenOut exchange now next None → Passed past at (events_at exchange first) before mid said said'
  all_passed out = subst (λ (events : List Event). Passed past at events before mid said said') (sym (so.split ∙ ap (λ (events : List Event). so.front ++ events) out.0 ∙ append-nil so.front)) so.passed

  pub all_left : {next : List Event} → IsTakenOut exchange now next None → next ≡ events_aside exchange first
  all_left out = out.1 ∙ sym (all_aside (is_at exchange) now out.0) ∙ so.aside
