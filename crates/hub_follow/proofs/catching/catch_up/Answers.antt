use Rattle.std.proofs.Common.{⊎_elim, ℕ, Result, sym, subst, ◌∙◌, arith}
use Rattle.std.specs.Prelude.{IfErr}
use Rattle.consumer_deltas.proofs.DeltaDoneLemmas.{cause_fails}
use Rattle.exchange_link.proofs.AskLemmas.{cause_more}
use Rattle.exchange_link.specs.Between.{call_with, copy_between, link_between}
use Rattle.exchange_link.specs.Completeness.{IsDone}
use Rattle.hub_follow.proofs.Ending.{miss_delta, miss_sync, sync_whole}
use Rattle.hub_follow.proofs.Standing.{done_delta, done_lacking, run_behind, run_low, stands_behind}
use Rattle.hub_follow.proofs.Wholes.{by_delta, by_sync, told_by_delta, told_by_sync}
use Rattle.hub_follow.proofs.Joining.{first_both, first_delta, leaves_both, leaves_delta, told_both, told_delta}
use Rattle.hub_follow.specs.Catching.{CatchesUp, CatchesUpTold}
use Rattle.hub_follow.specs.Causes.{KeeperView, LinkView, MissedBy, MissedTold, keeper_view, link_view}
use Rattle.hub_follow.specs.Ends.{IsMiss, sync_of}
use Rattle.hub_follow.specs.declared.answer.Missed.{Missed}
use Rattle.hub_follow.proofs.catching.catch_up.Given.{Over}
use Rattle.hub_follow.proofs.catching.catch_up.Goals as goal

-- what is seen of the copy's keeper and of the link
module _ (g : Over) where
  abbrev copies_of : KeeperView g.row.C.Denot
  copies_of = keeper_view g.C.CopyKeeper.stands_for g.C.CopyKeeper.fault_count g.C.CopyKeeper.leads

  abbrev links_of : LinkView g.row.L.Denot
  links_of = link_view g.L.Link.tells g.L.Link.asked g.L.Link.missed g.L.Link.kept g.L.Link.fault_count
      g.L.Link.leads

-- ---- a whole one behind an incremental one

pub returns-then-lacks_base-clause-shape : goal.returns-then-lacks_base-clause-shape
returns-then-lacks_base-clause-shape g c = subst (λ (r : Result ℕ Missed). IfErr r IsMiss) (sym c.end_of_sync.ensures) (miss_sync c.sync-whole.result)

pub returns-then-lacks_base-clause-copy : goal.returns-then-lacks_base-clause-copy
returns-then-lacks_base-clause-copy g c after stands =
    let token = c.args.token.now in
    let y = c.sync-whole.ensures.copy after stands in
    let x = c.delta_sync-answer.ensures.copy y.0 y.1 in (
      x.0,
      x.1,
      subst (λ (r : Result ℕ Missed). CatchesUp (sync_of r) x.0 after) (sym c.end_of_sync.ensures)
          (subst (λ s. CatchesUp s x.0 after) (sym (sync_whole c.sync-whole.result)) (leaves_both token c.delta_sync-answer.result c.sync-whole.result x.0 y.0 after (sym c.lacks_base.ensures ∙ c.if-lacks_base.true) x.2 y.2)),
    )

pub returns-then-lacks_base-clause-cause : goal.returns-then-lacks_base-clause-cause
returns-then-lacks_base-clause-cause g c =
    let copies = copies_of g in
    let links = links_of g in
    let first = c.delta_sync-answer in
    subst (λ (r : Result ℕ Missed). MissedBy copies links c.args.token.now c.args.limit c.args.tries c.args.copy.now c.sync-whole.new.copy c.args.link.now c.sync-whole.new.link r) (sym c.end_of_sync.ensures)
    (by_sync copies links c.args.token.now c.args.limit c.args.tries c.args.copy.now first.new.copy c.sync-whole.new.copy c.args.link.now first.new.link c.sync-whole.new.link first.result c.sync-whole.result
    (record {
      lacks = sym c.lacks_base.ensures ∙ c.if-lacks_base.true;
      base = first.ensures.base;
      cause = first.ensures.cause;
      later = first.ensures.later;
      link_later = first.ensures.link_later;
      copy_leads = first.ensures.copy_leads;
      link_leads = first.ensures.link_leads;
    }) c.sync-whole.ensures.cause)

pub returns-then-lacks_base-clause-later : goal.returns-then-lacks_base-clause-later
returns-then-lacks_base-clause-later g c = omega (arith, c.delta_sync-answer.ensures.later, c.sync-whole.ensures.later)

pub returns-then-lacks_base-clause-copy_leads : goal.returns-then-lacks_base-clause-copy_leads
returns-then-lacks_base-clause-copy_leads g c = g.met.C.CopyKeeper.leads_on _ _ _ c.delta_sync-answer.ensures.copy_leads c.sync-whole.ensures.copy_leads

pub returns-then-lacks_base-clause-link_leads : goal.returns-then-lacks_base-clause-link_leads
returns-then-lacks_base-clause-link_leads g c = g.met.L.Link.leads_on _ _ _ c.delta_sync-answer.ensures.link_leads c.sync-whole.ensures.link_leads

pub returns-then-lacks_base-clause-first : goal.returns-then-lacks_base-clause-first
returns-then-lacks_base-clause-first g c some after tells stands told =
    let z = c.sync-whole.ensures.asks tells told in
    let w = c.delta_sync-answer.ensures.asks z.0 z.1 in
    let y = c.sync-whole.ensures.copy after stands in
    let law = c.delta_sync-answer.ensures.base y.0 y.1 in (
      w.0,
      w.1,
      first_both (call_with c.args.token.now c.args.limit c.args.tries)
          (copy_between g.C.CopyKeeper.stands_for g.C.CopyKeeper.fault_count c.args.copy.now c.delta_sync-answer.new.copy)
          (link_between g.L.Link.tells g.L.Link.asked g.L.Link.missed g.L.Link.kept g.L.Link.fault_count c.args.link.now c.delta_sync-answer.new.link)
          c.delta_sync-answer.result w.0.sent z.0.sent tells.sent y.0 y.1 (sym c.lacks_base.ensures ∙ c.if-lacks_base.true)
          (λ none. some law.0 law.1 (law.2.only none)) w.2 z.2.pages.more z.2.pages.sent,
    )

pub returns-then-lacks_base-clause-told : goal.returns-then-lacks_base-clause-told
returns-then-lacks_base-clause-told g c agree after tells stands told =
    let token = c.args.token.now in
    let y = c.sync-whole.ensures.told (λ m w sm tm. let x = c.delta_sync-answer.ensures.told agree m w sm tm in x.4.agree) after tells stands told in
    let x = c.delta_sync-answer.ensures.told agree y.0 y.1 y.2 y.3 in (
      x.0,
      x.1,
      x.2,
      x.3,
      subst (λ (r : Result ℕ Missed). CatchesUpTold token (sync_of r) x.0 x.1 after tells) (sym c.end_of_sync.ensures)
          (subst (λ s. CatchesUpTold token s x.0 x.1 after tells) (sym (sync_whole c.sync-whole.result))
          (told_both token c.delta_sync-answer.result x.0 x.1 y.0 y.1 after tells (sym c.lacks_base.ensures ∙ c.if-lacks_base.true) x.4 c.sync-whole.result y.4)),
    )

pub returns-then-lacks_base-clause-cause_told : goal.returns-then-lacks_base-clause-cause_told
returns-then-lacks_base-clause-cause_told g c agree after tells stands told =
    let links = links_of g in
    let token = c.args.token.now in
    let first = c.delta_sync-answer in
    let y = c.sync-whole.ensures.cause_told (λ m w sm tm. let x = first.ensures.told agree m w sm tm in x.4.agree) after tells stands told in
    let m = c.sync-whole.ensures.copy after stands in
    let x = first.ensures.told agree m.0 y.0 m.1 y.1 in
    let q = first.ensures.cause_told agree m.0 y.0 m.1 y.1 in
    subst (λ (r : Result ℕ Missed). MissedTold links token c.args.link.now tells r) (sym c.end_of_sync.ensures)
    (told_by_sync links token c.args.link.now tells c.sync-whole.result (x.1, x.3, cause_more token x.1 y.0 tells c.sync-whole.result x.4.moved y.2)
    (q.0, y.0, first.result, q.1, sym c.lacks_base.ensures ∙ c.if-lacks_base.true, q.2))

pub returns-then-lacks_base-clause-complete : goal.returns-then-lacks_base-clause-complete
returns-then-lacks_base-clause-complete g c agree link copy after tells stands told =
    let token = c.args.token.now in
    let first = c.delta_sync-answer in
    let lacks = sym c.lacks_base.ensures ∙ c.if-lacks_base.true in
    let y = c.sync-whole.ensures.complete (λ m w sm tm. let x = first.ensures.told agree m w sm tm in x.4.agree)
    (λ rose. link (let later = first.ensures.link_later in omega (arith, rose, later))) (λ rose. copy (let later = first.ensures.later in omega (arith, rose, later))) after tells stands told in
    let x = first.ensures.told agree y.0 y.1 y.2 y.3 in (
      x.0,
      x.1,
      x.2,
      x.3,
      λ low hub may. subst (λ (r : Result ℕ Missed). IsDone (sync_of r)) (sym c.end_of_sync.ensures)
          (subst IsDone (sym (sync_whole c.sync-whole.result))
          (y.4 (run_behind token first.result x.0 y.0 lacks x.4.leaves low) (λ rose. hub (let counts = x.4.moved.counts in omega (arith, rose, counts))) (stands_behind token x.0 x.1 y.0 y.1 first.result tells.hub lacks x.4 may.pin))),
    )

pub returns-then-lacks_base-clause-marks : goal.returns-then-lacks_base-clause-marks
returns-then-lacks_base-clause-marks g c agree = c.sync-whole.ensures.marks (c.delta_sync-answer.ensures.marks agree)

-- ---- an incremental one alone

pub returns-else-lacks_base-clause-shape : goal.returns-else-lacks_base-clause-shape
returns-else-lacks_base-clause-shape g c = subst (λ (r : Result ℕ Missed). IfErr r IsMiss) (sym c.end_of_delta.ensures) (miss_delta c.delta_sync-answer.result (sym c.lacks_base.ensures ∙ c.if-lacks_base.false))

pub returns-else-lacks_base-clause-copy : goal.returns-else-lacks_base-clause-copy
returns-else-lacks_base-clause-copy g c after stands =
    let x = c.delta_sync-answer.ensures.copy after stands in (
      x.0,
      x.1,
      subst (λ (r : Result ℕ Missed). CatchesUp (sync_of r) x.0 after) (sym c.end_of_delta.ensures) (leaves_delta c.args.token.now c.delta_sync-answer.result x.0 after (sym c.lacks_base.ensures ∙ c.if-lacks_base.false) x.2),
    )

pub returns-else-lacks_base-clause-cause : goal.returns-else-lacks_base-clause-cause
returns-else-lacks_base-clause-cause g c =
    let copies = copies_of g in
    let links = links_of g in
    let first = c.delta_sync-answer in
    subst (λ (r : Result ℕ Missed). MissedBy copies links c.args.token.now c.args.limit c.args.tries c.args.copy.now first.new.copy c.args.link.now first.new.link r) (sym c.end_of_delta.ensures)
    (by_delta copies links c.args.token.now c.args.limit c.args.tries c.args.copy.now first.new.copy c.args.link.now first.new.link first.result (sym c.lacks_base.ensures ∙ c.if-lacks_base.false) first.ensures.cause)

pub returns-else-lacks_base-clause-first : goal.returns-else-lacks_base-clause-first
returns-else-lacks_base-clause-first g c some after tells stands told =
    let w = c.delta_sync-answer.ensures.asks tells told in (
      w.0,
      w.1,
      first_delta (call_with c.args.token.now c.args.limit c.args.tries)
          (copy_between g.C.CopyKeeper.stands_for g.C.CopyKeeper.fault_count c.args.copy.now c.delta_sync-answer.new.copy)
          (link_between g.L.Link.tells g.L.Link.asked g.L.Link.missed g.L.Link.kept g.L.Link.fault_count c.args.link.now c.delta_sync-answer.new.link)
          c.delta_sync-answer.result w.0.sent tells.sent after stands w.2,
    )

pub returns-else-lacks_base-clause-told : goal.returns-else-lacks_base-clause-told
returns-else-lacks_base-clause-told g c agree after tells stands told =
    let x = c.delta_sync-answer.ensures.told agree after tells stands told in (
      x.0,
      x.1,
      x.2,
      x.3,
      subst (λ (r : Result ℕ Missed). CatchesUpTold c.args.token.now (sync_of r) x.0 x.1 after tells) (sym c.end_of_delta.ensures)
          (told_delta c.args.token.now c.delta_sync-answer.result x.0 x.1 after tells (sym c.lacks_base.ensures ∙ c.if-lacks_base.false) x.4),
    )

pub returns-else-lacks_base-clause-cause_told : goal.returns-else-lacks_base-clause-cause_told
returns-else-lacks_base-clause-cause_told g c agree after tells stands told =
    let links = links_of g in
    let q = c.delta_sync-answer.ensures.cause_told agree after tells stands told in
    subst (λ (r : Result ℕ Missed). MissedTold links c.args.token.now c.args.link.now tells r) (sym c.end_of_delta.ensures)
    (told_by_delta links c.args.token.now c.args.link.now q.0 tells c.delta_sync-answer.result (sym c.lacks_base.ensures ∙ c.if-lacks_base.false) q.1 q.2)

pub returns-else-lacks_base-clause-complete : goal.returns-else-lacks_base-clause-complete
returns-else-lacks_base-clause-complete g c agree link copy after tells stands told =
    let token = c.args.token.now in
    let first = c.delta_sync-answer in
    let lacks = sym c.lacks_base.ensures ∙ c.if-lacks_base.false in
    let x = first.ensures.complete agree link copy after tells stands told in
    let law = first.ensures.base after stands in (
      x.0,
      x.1,
      x.2,
      x.3,
      λ low hub may. subst (λ (r : Result ℕ Missed). IsDone (sync_of r)) (sym c.end_of_delta.ensures)
          (done_delta first.result lacks
          (⊎_elim (λ none. done_lacking token first.result law.0 lacks law.2 (none law.0 law.1) (λ fault. copy (cause_fails _ _ _ _ _ _ _ first.result first.ensures.cause.only fault)))
          (λ base. x.4 (run_low x.0.run low) hub may.pin base.0 base.1 base.2) may.base)),
    )
