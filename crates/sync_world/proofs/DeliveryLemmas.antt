-- What becomes of the request of an exchange.
use Rattle.std.proofs.Common.{◌≡◌, ℕ, ℤ, List, Option, Some, None, Result, Ok, Err, sym, subst}
use Rattle.hub_spec.specs.requests.Requests.{wanted_by}
use Rattle.hub_spec.specs.rules.Runs.{Replied, Take}
use Rattle.keeper_memory.specs.Calls.{CallsLead}
use Rattle.outside_ports.specs.declared.failed.IoError.{IoError}
use Rattle.outside_ports.specs.declared.failed.IoError.TheVariants as io_error
use Rattle.status_info.specs.declared.reply.Reply.{Reply}
use Rattle.status_info.specs.declared.request.Request.{Request}
use Rattle.sync_world.proofs.WalkLemmas.{by_step}
use Rattle.sync_world.specs.Acts.{TakesOne}
use Rattle.sync_world.specs.Deliveries.{Becomes, Carried, Delivered, Gives, IsCome, Notes, OnCome, Scene, coming}
use Rattle.sync_world.specs.Happenings.{Passed}
use Rattle.sync_world.specs.Own.{IsOwnText}
use Rattle.sync_world.specs.Planned.{events_aside, events_at}
use Rattle.sync_world.specs.Worlds.{HeldWorld, IsCounted}
use Rattle.sync_world.specs.declared.past.Past.{Past}
use Rattle.sync_world.specs.declared.traffic.Exchange.{Exchange}
use Rattle.sync_world.specs.declared.traffic.Fate.{Fate}

-- the hub's own reply to a request that it took
pub gives : (request : Request) (at : ℤ) (reply : Reply) (text : List ℕ) (before after : HeldWorld) → IsCounted before
    → TakesOne request at reply before after → CallsLead before.plan after.plan → IsOwnText reply text
    → Gives request at before after text
gives request at reply text before after fits (failed, count, step) calls own = (reply, by_step (Take (wanted_by request) at) (Replied reply) before after failed fits count step calls, own.text_is)

-- ---- what came

module _ {T : Type 0} (items : T → List ℕ) where
  pub on_come_each : (P Q : Option (List ℕ) → Type 0) (r : Result T IoError) → ((came : Option (List ℕ)) → P came → Q came) → OnCome items P r → OnCome items Q r
  on_come_each P Q (Ok text) each here = each (Some (items text)) here
  on_come_each P Q (Err io_error.Failed) each here = each None here
  on_come_each P Q (Err io_error.NoMemory) each here = tt

  pub come_is : (P : Option (List ℕ) → Type 0) (would : Option (List ℕ)) (r : Result T IoError) → IsCome items would r → OnCome items P r → P would
  come_is P would (Ok text) is here = subst P (sym is) here
  come_is P would (Err io_error.Failed) is here = subst P (sym is) here
  come_is P would (Err io_error.NoMemory) is here = absurd is

-- ---- one exchange

-- it was delivered, by the reply that came or would have come
pub is_delivered : {T S : Type 0} (items : T → List ℕ) (shown : S → List ℕ) (r : Result T IoError) (reply : Result S IoError) (f : Fate) (number : ℕ) (q request : Request) (at : ℤ) (told past past' : List Past) (before after : HeldWorld)
    → request ≡ q → told ≡ past → OnCome shown (Becomes f told request at before after) reply
    → OnCome items (λ came. (would : Option (List ℕ)) × IsCome shown would reply × Notes number request would past past' × (came ≡ coming f would)) r
    → OnCome items (Delivered (record { number = number; at = at; fate = f }) q past past' before after) r
is_delivered items shown r reply f number q request at told past past' before after same here becomes noted =
    subst (λ (x : Request). OnCome items (Delivered (record { number = number; at = at; fate = f }) x past past' before after) r) same
    (on_come_each items (λ came. (would : Option (List ℕ)) × IsCome shown would reply × Notes number request would past past' × (came ≡ coming f would)) (Delivered (record { number = number; at = at; fate = f }) request past past' before after) r
    (λ came is. record { would = is.0; becomes = come_is shown (Becomes f past request at before after) is.0 reply is.1 (subst (λ (p : List Past). OnCome shown (Becomes f p request at before after) reply) here becomes); noted = is.2; comes = is.3 }) noted)

-- and what was planned came to pass before
pub is_carried : {T : Type 0} (items : T → List ℕ) (r : Result T IoError) (exchange : Exchange) (q : Request) (old new : Scene) (mid : HeldWorld)
    → Passed old.past exchange.at (events_at exchange.number old.events) old.world mid old.said new.said → new.events ≡ events_aside exchange.number old.events
    → OnCome items (Delivered exchange q old.past new.past mid new.world) r → OnCome items (Carried exchange q old new) r
is_carried items r exchange q old new mid passed aside delivered =
    on_come_each items (Delivered exchange q old.past new.past mid new.world) (Carried exchange q old new) r
    (λ came is. record { mid = mid; passed = passed; aside = aside; delivered = is }) delivered
