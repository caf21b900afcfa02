use Rattle.std.proofs.Common.{◌≡◌, ℕ, Result, refl, sym, subst, ◌∙◌, arith, inl}
use Rattle.std.specs.Prelude.{IfErr, ⊤, ◌≤◌}
use Rattle.exchange_link.specs.Completeness.{IsDone}
use Rattle.hub_cascade.specs.Answers.{CountsCopy, CountsHub, LeavesOpen, MakesCascade, TellsHeld}
use Rattle.hub_cascade.specs.Cascading.{active_rows, current_rows}
use Rattle.hub_cascade.specs.Held.{CascadesHeld, held_rows}
use Rattle.hub_follow.proofs.Standing.{followed_cascade, followed_miss, held_some, is_followed}
use Rattle.hub_follow.proofs.Wholes.{err_synced, if_cascaded, if_done, if_missed, if_undone, ok_synced, rows_complete}
use Rattle.hub_follow.proofs.Wholes.{serves, shows_rows}
use Rattle.hub_follow.specs.Catching.{CatchesUp, CatchesUpTold, rows_seen}
use Rattle.hub_follow.specs.Causes.{KeeperView, LinkView, MissedBy, MissedTold, keeper_view, link_view}
use Rattle.hub_follow.specs.Ends.{IsFollowed, IsMiss, sync_of, synced}
use Rattle.hub_follow.specs.declared.answer.Missed.{Missed}
use Rattle.hub_spec.specs.rules.Checks.{version_at}
use Rattle.keeper_memory.specs.Kept.{newest_kept}
use Rattle.keeper_memory.specs.copy.Copies.{Copy}
use Rattle.hub_follow.proofs.following.follow.Given.{Over}
use Rattle.hub_follow.proofs.following.follow.Goals.{After-after_cascade, After-answer_of_miss}
use Rattle.hub_follow.proofs.following.follow.Goals as goal

-- what is seen of the copy's keeper and of the link
module _ (g : Over) where
  abbrev copies_of : KeeperView g.row.C.Denot
  copies_of = keeper_view g.C.CopyKeeper.stands_for g.C.CopyKeeper.fault_count g.C.CopyKeeper.leads

  abbrev links_of : LinkView g.row.L.Denot
  links_of = link_view g.L.Link.tells g.L.Link.asked g.L.Link.missed g.L.Link.kept g.L.Link.fault_count
      g.L.Link.leads

-- how the synchronisation of the answer ended
module _ (g : Over) (c : After-after_cascade g) where
  followed_is : c.catch_up.result ≡ synced c.after_cascade.result
  followed_is = c.in-Ok.is
      ∙ ok_synced c.after_cascade.result c.in-Ok.version c.cascade-made.result c.after_cascade.ensures

module _ (g : Over) (c : After-answer_of_miss g) where
  missed_is : c.catch_up.result ≡ synced c.answer_of_miss.result
  missed_is = c.in-Err.is ∙ err_synced c.answer_of_miss.result c.in-Err.missed c.answer_of_miss.ensures

-- ---- a copy that is complete is cascaded

pub returns-in-Ok-clause-told : goal.returns-in-Ok-clause-told
returns-in-Ok-clause-told g c after standing =
    let t = c.cascade-made.ensures.told after standing in (
      t.0,
      t.1,
      t.2,
      if_cascaded c.after_cascade.result c.in-Ok.version c.cascade-made.result (λ made. MakesCascade (CascadesHeld (g.C.CopyKeeper.stands_for c.cascade-made.new.copy) c.args.task.feed.now c.args.task.at) made t.0 after) (after ≡ t.0) c.after_cascade.ensures t.3,
    )

pub returns-in-Ok-clause-unmoved : goal.returns-in-Ok-clause-unmoved
returns-in-Ok-clause-unmoved g c = if_cascaded c.after_cascade.result c.in-Ok.version c.cascade-made.result (λ made. ⊤) _ c.after_cascade.ensures tt

pub returns-in-Ok-clause-held : goal.returns-in-Ok-clause-held
returns-in-Ok-clause-held g c = if_cascaded c.after_cascade.result c.in-Ok.version c.cascade-made.result (TellsHeld (g.C.CopyKeeper.stands_for c.cascade-made.new.copy)) ⊤ c.after_cascade.ensures c.cascade-made.ensures.held

pub returns-in-Ok-clause-settled : goal.returns-in-Ok-clause-settled
returns-in-Ok-clause-settled g c = if_cascaded c.after_cascade.result c.in-Ok.version c.cascade-made.result (λ made. LeavesOpen made c.cascade-made.new.hub.commit_open) ⊤ c.after_cascade.ensures c.cascade-made.ensures.settled

pub returns-in-Ok-clause-hub_cause : goal.returns-in-Ok-clause-hub_cause
returns-in-Ok-clause-hub_cause g c =
    let count = g.H.HubKeeper.fault_count in
    if_cascaded c.after_cascade.result c.in-Ok.version c.cascade-made.result (CountsHub (count c.args.keeper.now) (count c.cascade-made.new.keeper)) ⊤ c.after_cascade.ensures c.cascade-made.ensures.hub_cause

pub returns-in-Ok-clause-shape : goal.returns-in-Ok-clause-shape
returns-in-Ok-clause-shape g c = subst (λ (r : Result ℕ Missed). IfErr r IsMiss) (ok_synced c.after_cascade.result c.in-Ok.version c.cascade-made.result c.after_cascade.ensures) tt

pub returns-in-Ok-clause-copy : goal.returns-in-Ok-clause-copy
returns-in-Ok-clause-copy g c after stands =
    let x = c.catch_up.ensures.copy after (c.cascade-made.ensures.same after stands) in
    let is = followed_is g (goal.at.returns-in-Ok-clause-copy g c).After-after_cascade in
    (x.0, x.1, subst (λ (r : Result ℕ Missed). CatchesUp (sync_of r) x.0 after) is x.2)

pub returns-in-Ok-clause-cause : goal.returns-in-Ok-clause-cause
returns-in-Ok-clause-cause g c =
    let copies = copies_of g in
    let links = links_of g in
    subst (λ (r : Result ℕ Missed). MissedBy copies links c.args.task.token.now c.args.task.limit c.args.task.tries c.args.copy.now c.cascade-made.new.copy c.args.link.now c.catch_up.new.link r)
    (ok_synced c.after_cascade.result c.in-Ok.version c.cascade-made.result c.after_cascade.ensures) tt

pub returns-in-Ok-clause-copy_cause : goal.returns-in-Ok-clause-copy_cause
returns-in-Ok-clause-copy_cause g c =
    let leads = g.C.CopyKeeper.leads in
    let count = g.C.CopyKeeper.fault_count in
    if_cascaded c.after_cascade.result c.in-Ok.version c.cascade-made.result
    (λ made. (held : g.row.C.Denot) × leads c.args.copy.now held × leads held c.cascade-made.new.copy × (count c.args.copy.now ≤ count held) × CountsCopy (count held) (count c.cascade-made.new.copy) made) ⊤ c.after_cascade.ensures
    (c.catch_up.new.copy, c.catch_up.ensures.copy_leads, c.cascade-made.ensures.copy_leads, c.catch_up.ensures.later, c.cascade-made.ensures.copy_cause)

pub returns-in-Ok-clause-later : goal.returns-in-Ok-clause-later
returns-in-Ok-clause-later g c = omega (arith, c.catch_up.ensures.later, c.cascade-made.ensures.later)

pub returns-in-Ok-clause-copy_leads : goal.returns-in-Ok-clause-copy_leads
returns-in-Ok-clause-copy_leads g c = g.met.C.CopyKeeper.leads_on _ _ _ c.catch_up.ensures.copy_leads c.cascade-made.ensures.copy_leads

pub returns-in-Ok-clause-first : goal.returns-in-Ok-clause-first
returns-in-Ok-clause-first g c some after tells stands told = c.catch_up.ensures.first some after tells (c.cascade-made.ensures.same after stands) told

pub returns-in-Ok-clause-synchronised : goal.returns-in-Ok-clause-synchronised
returns-in-Ok-clause-synchronised g c agree after tells stands told =
    let x = c.catch_up.ensures.told agree after tells (c.cascade-made.ensures.same after stands) told in
    let is = followed_is g (goal.at.returns-in-Ok-clause-synchronised g c).After-after_cascade in
    (x.0, x.1, x.2, x.3, subst (λ (r : Result ℕ Missed). CatchesUpTold c.args.task.token.now (sync_of r) x.0 x.1 after tells) is x.4)

pub returns-in-Ok-clause-cause_told : goal.returns-in-Ok-clause-cause_told
returns-in-Ok-clause-cause_told g c agree after tells stands told =
    let links = links_of g in
    subst (λ (r : Result ℕ Missed). MissedTold links c.args.task.token.now c.args.link.now tells r)
    (ok_synced c.after_cascade.result c.in-Ok.version c.cascade-made.result c.after_cascade.ensures) tt

pub returns-in-Ok-clause-caught : goal.returns-in-Ok-clause-caught
returns-in-Ok-clause-caught g c agree link quiet after tells stands told =
    let made = c.cascade-made in
    let y = c.catch_up.ensures.complete agree link (λ rose. quiet (let later = made.ensures.later in omega (arith, rose, later))) after tells (made.ensures.same after stands) told in
    let is = followed_is g (goal.at.returns-in-Ok-clause-caught g c).After-after_cascade in
    (y.0, y.1, y.2, y.3, λ low hub may. subst (λ (r : Result ℕ Missed). IsDone (sync_of r)) is (y.4 low hub may))

pub returns-in-Ok-clause-complete : goal.returns-in-Ok-clause-complete
returns-in-Ok-clause-complete g c agree link quiet hub after tells stands told =
    let token = c.args.task.token.now in
    let made = c.cascade-made in
    let count = g.C.CopyKeeper.fault_count in
    let held = made.ensures.same after stands in
    let y = c.catch_up.ensures.complete agree link (λ rose. quiet (let later = made.ensures.later in omega (arith, rose, later))) after tells held told in
    let x = c.catch_up.ensures.told agree after tells held told in
    let z = subst (λ (r : Result ℕ Missed). CatchesUpTold token (sync_of r) x.0 x.1 after tells) c.in-Ok.is x.4 in
    let cascade = made.ensures.told made.new.hub.kept (inl refl) in (
      y.0,
      y.1,
      y.2,
      y.3,
      λ low hub_quiet may passes. is_followed c.after_cascade.result c.in-Ok.version made.result c.after_cascade.ensures
          (followed_cascade c.in-Ok.version made.result (g.H.HubKeeper.fault_count c.args.keeper.now) (g.H.HubKeeper.fault_count made.new.keeper) (count c.catch_up.new.copy) (count made.new.copy) (g.C.CopyKeeper.stands_for made.new.copy) after
          (CascadesHeld (g.C.CopyKeeper.stands_for made.new.copy) c.args.task.feed.now c.args.task.at) cascade.0 made.new.hub.kept made.ensures.hub_cause hub made.ensures.copy_cause
          (λ rose. quiet (let later = c.catch_up.ensures.later in omega (arith, rose, later))) made.ensures.held stands (held_some c.in-Ok.version token x.0 x.1 after tells z.held) cascade.3 (λ fault. passes cascade.0 fault cascade.1)),
    )

pub returns-in-Ok-clause-marks : goal.returns-in-Ok-clause-marks
returns-in-Ok-clause-marks g c agree after tells stands told = c.catch_up.ensures.marks agree after tells (c.cascade-made.ensures.same after stands) told

pub returns-in-Ok-clause-served : goal.returns-in-Ok-clause-served
returns-in-Ok-clause-served g c =
    let copies = g.C.CopyKeeper.stands_for c.cascade-made.new.copy in
    let current = current_rows c.args.task.feed.now (newest_kept c.cascade-made.new.hub.kept.versions).rows in
    if_done c.after_cascade.result c.in-Ok.version c.cascade-made.result (λ version. (d : Copy) → copies d → current ≡ active_rows (held_rows d)) c.after_cascade.ensures c.cascade-made.ensures.served

pub returns-in-Ok-clause-done_shows : goal.returns-in-Ok-clause-done_shows
returns-in-Ok-clause-done_shows g c agree after tells stands told =
    let token = c.args.task.token.now in
    let copies = g.C.CopyKeeper.stands_for c.cascade-made.new.copy in
    let current = current_rows c.args.task.feed.now (newest_kept c.cascade-made.new.hub.kept.versions).rows in
    let x = c.catch_up.ensures.told agree after tells (c.cascade-made.ensures.same after stands) told in
    let y = subst (λ (r : Result ℕ Missed). CatchesUpTold token (sync_of r) x.0 x.1 after tells) c.in-Ok.is x.4 in
    if_done c.after_cascade.result c.in-Ok.version c.cascade-made.result (λ version. current ≡ active_rows (rows_seen (version_at tells.hub version) token)) c.after_cascade.ensures
    (shows_rows c.cascade-made.result current (held_rows after) (rows_seen (version_at tells.hub c.in-Ok.version) token) (rows_complete c.in-Ok.version token x.0 x.1 after tells y.held)
    (serves c.cascade-made.result copies current after stands c.cascade-made.ensures.served))

-- ---- a synchronisation that wasn't complete

pub returns-in-Err-clause-told : goal.returns-in-Err-clause-told
returns-in-Err-clause-told g c after standing = (
  after,
  standing,
  (λ stands. stands),
  if_missed c.answer_of_miss.result c.in-Err.missed (λ made. MakesCascade (CascadesHeld (g.C.CopyKeeper.stands_for c.catch_up.new.copy) c.args.task.feed.now c.args.task.at) made after after) (after ≡ after) c.answer_of_miss.ensures refl,
)

pub returns-in-Err-clause-unmoved : goal.returns-in-Err-clause-unmoved
returns-in-Err-clause-unmoved g c = if_missed c.answer_of_miss.result c.in-Err.missed (λ made. ⊤) _ c.answer_of_miss.ensures (refl, refl)

pub returns-in-Err-clause-held : goal.returns-in-Err-clause-held
returns-in-Err-clause-held g c = if_missed c.answer_of_miss.result c.in-Err.missed (TellsHeld (g.C.CopyKeeper.stands_for c.catch_up.new.copy)) ⊤ c.answer_of_miss.ensures tt

pub returns-in-Err-clause-settled : goal.returns-in-Err-clause-settled
returns-in-Err-clause-settled g c = if_missed c.answer_of_miss.result c.in-Err.missed (λ made. LeavesOpen made c.args.hub.now.commit_open) ⊤ c.answer_of_miss.ensures tt

pub returns-in-Err-clause-hub_cause : goal.returns-in-Err-clause-hub_cause
returns-in-Err-clause-hub_cause g c =
    let count = g.H.HubKeeper.fault_count in
    if_missed c.answer_of_miss.result c.in-Err.missed (CountsHub (count c.args.keeper.now) (count c.args.keeper.now)) ⊤ c.answer_of_miss.ensures tt

pub returns-in-Err-clause-hub_leads : goal.returns-in-Err-clause-hub_leads
returns-in-Err-clause-hub_leads g c = g.met.H.HubKeeper.stays _

pub returns-in-Err-clause-shape : goal.returns-in-Err-clause-shape
returns-in-Err-clause-shape g c =
    let is = missed_is g (goal.at.returns-in-Err-clause-shape g c).After-answer_of_miss in
    subst (λ (r : Result ℕ Missed). IfErr r IsMiss) is c.catch_up.ensures.shape

pub returns-in-Err-clause-copy : goal.returns-in-Err-clause-copy
returns-in-Err-clause-copy g c after stands =
    let x = c.catch_up.ensures.copy after stands in
    let is = missed_is g (goal.at.returns-in-Err-clause-copy g c).After-answer_of_miss in
    (x.0, x.1, subst (λ (r : Result ℕ Missed). CatchesUp (sync_of r) x.0 after) is x.2)

pub returns-in-Err-clause-cause : goal.returns-in-Err-clause-cause
returns-in-Err-clause-cause g c =
    let copies = copies_of g in
    let links = links_of g in
    subst (λ (r : Result ℕ Missed). MissedBy copies links c.args.task.token.now c.args.task.limit c.args.task.tries c.args.copy.now c.catch_up.new.copy c.args.link.now c.catch_up.new.link r)
    (missed_is g (goal.at.returns-in-Err-clause-cause g c).After-answer_of_miss) c.catch_up.ensures.cause

pub returns-in-Err-clause-copy_cause : goal.returns-in-Err-clause-copy_cause
returns-in-Err-clause-copy_cause g c =
    let leads = g.C.CopyKeeper.leads in
    let count = g.C.CopyKeeper.fault_count in
    if_missed c.answer_of_miss.result c.in-Err.missed (λ made. (held : g.row.C.Denot) × leads c.args.copy.now held × leads held c.catch_up.new.copy × (count c.args.copy.now ≤ count held) × CountsCopy (count held) (count c.catch_up.new.copy) made) ⊤ c.answer_of_miss.ensures tt

pub returns-in-Err-clause-synchronised : goal.returns-in-Err-clause-synchronised
returns-in-Err-clause-synchronised g c agree after tells stands told =
    let x = c.catch_up.ensures.told agree after tells stands told in
    let is = missed_is g (goal.at.returns-in-Err-clause-synchronised g c).After-answer_of_miss in
    (x.0, x.1, x.2, x.3, subst (λ (r : Result ℕ Missed). CatchesUpTold c.args.task.token.now (sync_of r) x.0 x.1 after tells) is x.4)

pub returns-in-Err-clause-cause_told : goal.returns-in-Err-clause-cause_told
returns-in-Err-clause-cause_told g c agree after tells stands told =
    let links = links_of g in
    subst (λ (r : Result ℕ Missed). MissedTold links c.args.task.token.now c.args.link.now tells r)
    (missed_is g (goal.at.returns-in-Err-clause-cause_told g c).After-answer_of_miss)
    (c.catch_up.ensures.cause_told agree after tells stands told)

pub returns-in-Err-clause-caught : goal.returns-in-Err-clause-caught
returns-in-Err-clause-caught g c agree link quiet after tells stands told =
    let y = c.catch_up.ensures.complete agree link quiet after tells stands told in
    let is = missed_is g (goal.at.returns-in-Err-clause-caught g c).After-answer_of_miss in
    (y.0, y.1, y.2, y.3, λ low hub may. subst (λ (r : Result ℕ Missed). IsDone (sync_of r)) is (y.4 low hub may))

pub returns-in-Err-clause-complete : goal.returns-in-Err-clause-complete
returns-in-Err-clause-complete g c agree link quiet hub after tells stands told =
    let y = c.catch_up.ensures.complete agree link quiet after tells stands told in (
      y.0,
      y.1,
      y.2,
      y.3,
      λ low hub_quiet may passes. subst IsFollowed (sym c.answer_of_miss.ensures)
          (followed_miss c.in-Err.missed (subst (λ (r : Result ℕ Missed). IsDone (sync_of r)) c.in-Err.is (y.4 low hub_quiet may)) (subst (λ (r : Result ℕ Missed). IfErr r IsMiss) c.in-Err.is c.catch_up.ensures.shape)),
    )

pub returns-in-Err-clause-served : goal.returns-in-Err-clause-served
returns-in-Err-clause-served g c = if_undone c.answer_of_miss.result c.in-Err.missed _ c.answer_of_miss.ensures

pub returns-in-Err-clause-done_shows : goal.returns-in-Err-clause-done_shows
returns-in-Err-clause-done_shows g c agree after tells stands told = if_undone c.answer_of_miss.result c.in-Err.missed _ c.answer_of_miss.ensures
