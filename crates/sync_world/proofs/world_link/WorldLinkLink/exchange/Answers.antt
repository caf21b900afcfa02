use Rattle.std.proofs.Common.{◌≡◌, inl, inr, [], Err, ap, refl, rules, subst, ◌∙◌}
use Rattle.outside_ports.specs.declared.failed.IoError.TheVariants as io_error
use Rattle.sync_world.specs.Deliveries.{Carried, OnCome}
use Rattle.sync_world.specs.Given.{is_stale, requests_in}
use Rattle.sync_world.specs.Links.{world_state}
use Rattle.sync_world.specs.Planned.{fate_at}
use Rattle.sync_world.proofs.ExchangeLemmas.{broken_leads, by_stale, came_leads, counts_as, exchanged, noted_or}
use Rattle.sync_world.proofs.ExchangeLemmas.{own_carries, sure}
use Rattle.sync_world.proofs.world_link.WorldLinkLink.exchange.Goals as goal

pub returns-in-Ok-clause-own : goal.returns-in-Ok-clause-own
returns-in-Ok-clause-own c = rw (← c.self.view_is) (λ q is.
    by_stale (is_stale c.fate_of-fate.result) (λ e. inr (c.count.ensures.rose (c.is_stale.ensures ∙ e)))
    (λ e. inl (own_carries c.self.inside.world c.carry-came.new.world q c.in-Ok.reply.items (c.in-Ok.ensures.own e q is [] []))))

pub returns-in-Ok-clause-leads : goal.returns-in-Ok-clause-leads
returns-in-Ok-clause-leads c = rw (← c.self.view_is)
    (let (q, is) = c.requires in
    came_leads (record { walks = c.in-Ok.ensures.walks; clock = refl; fates = refl }) c.saturating_add-number.ensures c.count.ensures.asked
    (c.fate_of-fate.ensures ∙ ap (λ fates. fate_at fates c.saturating_add-number.result) c.as_slice.ensures.value) (sure (c.in-Ok.ensures.sent q is) (λ none. cc none.0)) refl (c.in-Ok.ensures.carried q is)
    (refl, counts_as (is_stale c.fate_of-fate.result) c.self.inside.tally.faults c.count.new.self.faults (λ e. c.count.ensures.rose (c.is_stale.ensures ∙ e)) (λ e. c.count.ensures.quiet (c.is_stale.ensures ∙ e))))

pub returns-in-Ok-clause-told : goal.returns-in-Ok-clause-told
returns-in-Ok-clause-told c =
    let sent = requests_in c.self.inside.past.items in
    let sent' = requests_in c.carry-came.new.past.items in
    rw (← c.self.view_is) (λ q is after tells. (
      world_state sent c.self.inside.world,
      (refl, c.faults.ensures.hub),
      exchanged c.in-Ok.ensures.walks (inl (sure (c.in-Ok.ensures.sent q is) (λ none. cc none.0)))
          (by_stale (is_stale c.fate_of-fate.result) (λ e. inr (c.count.ensures.rose (c.is_stale.ensures ∙ e), c.in-Ok.ensures.late e)) (λ e. inl (c.in-Ok.ensures.own e q is sent sent')))
          tells.0,
    ))

pub returns-in-Err-Failed-clause-leads : goal.returns-in-Err-Failed-clause-leads
returns-in-Err-Failed-clause-leads c = rw (← c.self.view_is)
    (let (q, is) = c.requires in
    let failed : c.carry-came.result ≡ Err io_error.Failed = search rules in
    came_leads (record { walks = c.carry-came.ensures.walks; clock = refl; fates = refl }) c.saturating_add-number.ensures c.count-in-Err-Failed.ensures.asked
    (c.fate_of-fate.ensures ∙ ap (λ fates. fate_at fates c.saturating_add-number.result) c.as_slice.ensures.value) (sure (c.carry-came.ensures.sent q is) (λ none. cc (none.0, failed))) refl
    (subst (λ r. OnCome (λ v. v.items) (Carried (record { number = c.saturating_add-number.result; at = c.self.inside.at; fate = c.fate_of-fate.result }) q
    (record { past = c.self.inside.past.items; events = c.self.inside.events.items; world = c.self.inside.world; said = c.self.inside.said.items })
    (record { past = c.carry-came.new.past.items; events = c.carry-came.new.events.items; world = c.carry-came.new.world; said = c.carry-came.new.said.items })) r)
    failed (c.carry-came.ensures.carried q is))
    (c.new.ensures.items, c.count-in-Err-Failed.ensures.rose refl))

pub returns-in-Err-Failed-clause-told : goal.returns-in-Err-Failed-clause-told
returns-in-Err-Failed-clause-told c = rw (← c.self.view_is) (λ q is after tells.
    let failed : c.carry-came.result ≡ Err io_error.Failed = search rules in (
      world_state (requests_in c.self.inside.past.items) c.self.inside.world,
      (refl, c.faults.ensures.hub),
      exchanged c.carry-came.ensures.walks (inl (sure (c.carry-came.ensures.sent q is) (λ none. cc (none.0, failed)))) tt tells.0,
    ))

pub returns-in-Err-NoMemory-clause-leads : goal.returns-in-Err-NoMemory-clause-leads
returns-in-Err-NoMemory-clause-leads c = rw (← c.self.view_is)
    (let (q, is) = c.requires in
    broken_leads (record { walks = c.carry-came.ensures.walks; clock = refl; fates = refl })
    (noted_or c.self.inside.past.items c.carry-came.new.past.items q _ _ (λ none. none) (c.carry-came.ensures.sent q is)) refl)

pub returns-in-Err-NoMemory-clause-told : goal.returns-in-Err-NoMemory-clause-told
returns-in-Err-NoMemory-clause-told c = rw (← c.self.view_is) (λ q is after tells. (
  world_state (requests_in c.self.inside.past.items) c.self.inside.world,
  (refl, c.faults.ensures.hub),
  exchanged c.carry-came.ensures.walks (noted_or c.self.inside.past.items c.carry-came.new.past.items q _ _ (λ none. refl) (c.carry-came.ensures.sent q is)) tt tells.0,
))
