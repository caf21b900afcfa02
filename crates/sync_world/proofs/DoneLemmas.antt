-- Acts on a world's hub, and what is told of them.
use Rattle.std.proofs.Common.{◌≡◌, ℕ, ℤ, ◌+◌, ◌-◌, ◌^◌, min, inl, inr, List, [], ◌∷◌, ◌++◌, Result, Ok, Err, OnOk}
use Rattle.std.proofs.Common.{refl, subst, sym}
use Rattle.std.proofs.lemmas.List.{append-nil}
use Rattle.hub_core.specs.declared.hub_error.HubError.{HubError}
use Rattle.hub_core.specs.declared.published.Published.{Published}
use Rattle.hub_spec.specs.requests.Requests.{wanted_by}
use Rattle.hub_spec.specs.rules.Runs.{Acts, Answer, Command, Fails, KeeperFailed, Reopen, Reopened, Replied}
use Rattle.hub_spec.specs.rules.Runs.{Take}
use Rattle.keeper_memory.specs.Calls.{CallsLead}
use Rattle.status_info.specs.declared.reply.Reply.{Reply}
use Rattle.status_info.specs.declared.request.Request.{Request}
use Rattle.version_core.specs.HubStates.{HubState}
use Rattle.sync_world.proofs.WalkLemmas.{by_step}
use Rattle.sync_world.specs.Acts.{Acted, Done, IsAct, IsMade, IsTaken, Makes, TakesOne, once, replied, taken}
use Rattle.sync_world.specs.Walks.{by_none}
use Rattle.sync_world.specs.Worlds.{HeldWorld, IsCounted}
use Rattle.sync_world.specs.declared.acts.HubAct.{HubAct}
use Rattle.sync_world.specs.declared.acts.HubAct.TheVariants as act
use Rattle.sync_world.specs.declared.acts.Saying.{Saying}
use Rattle.sync_world.specs.declared.acts.Saying.TheVariants as saying

-- what a call that is done leaves has what follows from it
pub if_done : {A B : Type 0} {E : Type 0} (result : Result (Unit {0}) E) → (A → B) → OnOk result A → OnOk result B
if_done (Ok done) each here = each here
if_done (Err e) each here = tt

-- a set is published, or grants are changed
pub made_acts : (Is : Done → Type 0) (command : Command) (given : Result Published HubError) (before after : HeldWorld) (said said' : List Saying) (tells : Saying) → IsCounted before
    → Makes command given before after → ((answer : Answer) (state : HubState) → IsMade given answer state → Is (once command answer state (tells ∷ []))) → said' ≡ said ++ tells ∷ [] → Acted Is before after said said'
made_acts Is command given before after said said' tells fits makes is told = record {
  done = once command makes.answer after.state (tells ∷ []);
  is = is makes.answer after.state makes.is;
  by = by_step command makes.answer before after makes.failed fits makes.count makes.step makes.calls;
  told = told;
}

-- the hub is opened again, or not
pub opened : (at : ℤ) (before after : HeldWorld) (said : List Saying) → IsCounted before → after.state ≡ before.state → after.faults ≡ before.faults → CallsLead before.plan after.plan
    → Acted (IsAct act.Restart at) before after said said
opened at before after said fits same count calls = record {
  done = once Reopen Reopened after.state [];
  is = (Reopened, after.state, [], refl, refl);
  by = by_step Reopen Reopened before after 0 fits (inl (refl, count)) (Acts (refl, same) refl) calls;
  told = sym (append-nil said);
}

pub not_opened : (at : ℤ) (before after : HeldWorld) (said said' : List Saying) → IsCounted before → after.state ≡ before.state → after.faults ≡ min (before.faults + 1) (2 ^ 64 - 1) → CallsLead before.plan after.plan
    → said' ≡ said ++ saying.NotOpened ∷ [] → Acted (IsAct act.Restart at) before after said said'
not_opened at before after said said' fits same count calls told = record {
  done = once Reopen KeeperFailed after.state (saying.NotOpened ∷ []);
  is = (KeeperFailed, after.state, saying.NotOpened ∷ [], refl, refl);
  by = by_step Reopen KeeperFailed before after 1 fits (inr (refl, count)) (Fails (inl same) refl refl) calls;
  told = told;
}

-- a request is taken, and its reply told
pub took : (request : Request) (at : ℤ) (reply : Reply) (before after : HeldWorld) (said said' : List Saying) → IsCounted before
    → TakesOne request at reply before after → CallsLead before.plan after.plan
    → said' ≡ said ++ replied reply ∷ [] → Acted (IsTaken request at) before after said said'
took request at reply before after said said' fits (failed, count, step) calls told = record {
  done = taken request at reply after.state;
  is = (reply, after.state, refl);
  by = by_step (Take (wanted_by request) at) (Replied reply) before after failed fits count step calls;
  told = told;
}

-- nothing is done, and these lines are told
pub only_tells : (done : HubAct) (lines : List ℕ) (at : ℤ) (world : HeldWorld) (said said' : List Saying) → done ≡ act.Tell lines → said' ≡ said ++ saying.Lines lines ∷ [] → Acted (IsAct done at) world world said said'
only_tells done lines at world said said' is told = subst (λ (a : HubAct). Acted (IsAct a at) world world said said') (sym is) (record {
  done = record { steps = []; said = saying.Lines lines ∷ [] };
  is = refl;
  by = by_none world;
  told = told;
})
