use Rattle.std.proofs.Common.{◌≡◌, ◌+◌, ℕ, List, inl, inr, refl, subst, ◌∙◌, Some, None, arith}
use Rattle.std.proofs.lemmas.Option.{none-some, same_Some}
use Rattle.std.specs.Prelude.{IfSome, Option}
use Rattle.keeper_memory.specs.copy.Copies.{Copy, first_unsettled}
use Rattle.keeper_memory.specs.copy.States.{CanBeEntry}
use Rattle.keeper_memory.specs.declared.copy.entry.OutEntry.{OutEntry}
use Rattle.keeper_memory.specs.declared.copy.state.TheConstants.{LAST}
use Rattle.exchange_link.specs.Exchanges.{LinkState}
use Rattle.exchange_link.proofs.AskLemmas.{moved_on, moved_refl}
use Rattle.exchange_link.proofs.AskedLemmas.{sends_refl, sends_weaker}
use Rattle.exchange_link.specs.Asked.{IsWriteUnder, SendsOn}
use Rattle.exchange_link.specs.Causes.{IsMore}
use Rattle.status_info.specs.declared.request.Request.{Request}
use Rattle.consumer_outbox.specs.Sends.{SoFar}
use Rattle.consumer_outbox.proofs.AllLemmas.{aside_cause, aside_fine, aside_names, aside_settled, aside_stays}
use Rattle.consumer_outbox.proofs.AllLemmas.{aside_told, bound_at, bound_next, can_send, cause_more, end_names}
use Rattle.consumer_outbox.proofs.AllLemmas.{end_not_last, entry_left, more_none, more_to, rose_from}
use Rattle.consumer_outbox.proofs.AllLemmas.{settles_at_end, settles_on, settles_up_to, so_far_none, told_on}
use Rattle.consumer_outbox.proofs.TriedLemmas.{aside_tried, entry_tried, sends_entry}
use Rattle.consumer_outbox.proofs.VerdictLemmas.{settled_exact}
use Rattle.consumer_outbox.proofs.WalkLemmas.{walk_begins, walk_over}
use Rattle.consumer_outbox.proofs.sending.send_all.Given.{Over}
use Rattle.consumer_outbox.proofs.sending.send_all.Goals.{After-next_unsettled, After-send_entry, In-Ok-Some}
use Rattle.consumer_outbox.proofs.sending.send_all.Goals as goal

-- the copy with which the call began, and how many entries were settled since
so_far : (g : Over) (c : After-next_unsettled g) (now : Copy) → g.C.CopyKeeper.stands_for c.next_unsettled.new.copy now
    → (before : Copy) × g.C.CopyKeeper.stands_for c.args.copy.now before × SoFar c.entries.settled before now
so_far g c now stands = c.entries.invariant.copy now (c.next_unsettled.ensures.same now stands)

-- the entry that was found is the first one that isn't settled
module _ (g : Over) (c : In-Ok-Some g) where
  first_is : (found : Copy) → g.C.CopyKeeper.stands_for c.next_unsettled.new.copy found
      → first_unsettled found.entries ≡ Some c.in-Ok-Some.entry
  first_is found stands = c.in-Ok-Some.ensures.next found stands ∙ c.in-Ok-Some.field-0-is

-- how many exchanges there were
module _ (g : Over) (c : After-send_entry g) where
  counted : IsMore (g.L.Link.asked c.args.link.now) c.send_entry.new.count (g.L.Link.asked c.send_entry.new.link)
  counted = more_to _ _ _ c.entries.count c.send_entry.new.count c.entries.invariant.asked c.send_entry.ensures.count.0
      c.send_entry.ensures.asked

-- where no number was left out, all that was sent stands, whatever the answer
all_sent : (token : List ℕ) (entries : List OutEntry) (run count : ℕ) (wants : Type 0) (before after : List Request)
    → SendsOn (IsWriteUnder token entries) run 0 count ⊥ before after
    → SendsOn (IsWriteUnder token entries) run 0 count wants before after
all_sent token entries run count wants before after =
    sends_weaker (IsWriteUnder token entries) (IsWriteUnder token entries) run 0 count ⊥ wants before after
    (λ n q h. h) (λ h. absurd h)

pub entries-init : goal.entries-init
entries-init g c = record {
  walked = λ after stands. walk_begins after.entries (g.met.C.CopyKeeper.is_copy c.args.copy.now after stands).entries.rise;
  few = omega arith;
  room = omega arith;
  bound = omega arith;
  asked = more_none _;
  kept = λ reply own. absurd (omega (arith, own.from));
  copy = λ after stands. (after, stands, so_far_none after);
  link = λ told tells. (told, tells, moved_refl told);
  sends = λ after told stands tells. (after, told, stands, tells, so_far_none after, sends_refl (IsWriteUnder c.args.by.token.now after.entries) c.args.by.run 0 ⊥ told.sent);
  agree = λ entry after told stands tells. entry after told stands tells;
  heard = omega arith;
  copy_leads = g.met.C.CopyKeeper.stays _;
  link_leads = g.met.L.Link.stays _;
  later = omega arith;
}

-- ---- the keeper gives up between two entries

pub returns-in-Err-clause-copy : goal.returns-in-Err-clause-copy
returns-in-Err-clause-copy g c after stands =
    let begun = so_far g (goal.at.returns-in-Err-clause-copy g c).After-next_unsettled after stands in
    (begun.0, begun.1, (c.entries.settled, begun.2, aside_settled c.in-Err.answer c.entries.settled after.entries c.in-Err.ensures.cause.0), bound_at c.args.by.tries c.entries.settled c.entries.count _ _ _ c.entries.invariant.bound c.entries.invariant.asked.most begun.2.entries.enough)

pub returns-in-Err-clause-agree : goal.returns-in-Err-clause-agree
returns-in-Err-clause-agree g c entry after told stands tells = (c.entries.count, c.entries.invariant.agree entry after told (c.next_unsettled.ensures.same after stands) tells)

pub returns-in-Err-clause-told : goal.returns-in-Err-clause-told
returns-in-Err-clause-told g c entry after told stands tells =
    let start = c.entries.invariant.link told tells in
    (start.0, start.1, aside_told c.args.by.token.now start.0 told after.entries c.in-Err.answer c.in-Err.ensures.cause.0)

pub returns-in-Err-clause-complete : goal.returns-in-Err-clause-complete
returns-in-Err-clause-complete g c entry link copy after told stands tells =
    let begun = so_far g (goal.at.returns-in-Err-clause-complete g c).After-next_unsettled after stands in
    let start = c.entries.invariant.link told tells in
    (begun.0, start.0, begun.1, start.1, λ quiet can. aside_fine c.in-Err.answer c.in-Err.ensures.cause.0 (λ e. copy (let rose = c.in-Err.ensures.cause.1 e in omega (arith, rose, c.entries.invariant.later))))

pub returns-in-Err-clause-cause : goal.returns-in-Err-clause-cause
returns-in-Err-clause-cause g c = (
  c.entries.count,
  c.entries.invariant.asked,
  aside_cause _ c.args.by.run c.entries.count _ _ c.in-Err.answer c.in-Err.ensures.cause.0 (λ e. let rose = c.in-Err.ensures.cause.1 e in omega (arith, rose, c.entries.invariant.later)),
  λ reply own. inl c.in-Err.ensures.cause.0,
  λ after stands. aside_names c.in-Err.answer after.entries c.in-Err.ensures.cause.0,
  λ ends. absurd (aside_stays c.in-Err.answer c.in-Err.ensures.cause.0 ends),
)

-- ---- no entry follows

pub returns-in-Ok-None-clause-copy : goal.returns-in-Ok-None-clause-copy
returns-in-Ok-None-clause-copy g c after stands =
    let begun = so_far g (goal.at.returns-in-Ok-None-clause-copy g c).After-next_unsettled after stands in
    let none : first_unsettled after.entries ≡ None = c.in-Ok-None.ensures.next after stands ∙ c.in-Ok-None.field-0-is in
    (begun.0, begun.1, (c.entries.settled, begun.2, (refl, none)), bound_at c.args.by.tries c.entries.settled c.entries.count _ _ _ c.entries.invariant.bound c.entries.invariant.asked.most begun.2.entries.enough)

pub returns-in-Ok-None-clause-agree : goal.returns-in-Ok-None-clause-agree
returns-in-Ok-None-clause-agree g c entry after told stands tells = (c.entries.count, c.entries.invariant.agree entry after told (c.next_unsettled.ensures.same after stands) tells)

pub returns-in-Ok-None-clause-told : goal.returns-in-Ok-None-clause-told
returns-in-Ok-None-clause-told g c entry after told stands tells = let start = c.entries.invariant.link told tells in (start.0, start.1, tt)

pub returns-in-Ok-None-clause-complete : goal.returns-in-Ok-None-clause-complete
returns-in-Ok-None-clause-complete g c entry link copy after told stands tells =
    let begun = so_far g (goal.at.returns-in-Ok-None-clause-complete g c).After-next_unsettled after stands in
    let start = c.entries.invariant.link told tells in
    (begun.0, start.0, begun.1, start.1, λ quiet can. tt)

pub returns-in-Ok-None-clause-cause : goal.returns-in-Ok-None-clause-cause
returns-in-Ok-None-clause-cause g c = (c.entries.count, c.entries.invariant.asked, tt, λ reply own. inr (settled_exact reply _ (c.entries.invariant.kept reply own)), λ after stands. tt, λ ends. absurd ends)

-- ---- an entry isn't settled

pub returns-in-Some-clause-copy : goal.returns-in-Some-clause-copy
returns-in-Some-clause-copy g c after stands =
    let found = c.in-Some.ensures.copy after stands in
    let begun = so_far g (goal.at.returns-in-Some-clause-copy g c).After-next_unsettled found.0 found.1 in
    let first = first_is g (goal.at.returns-in-Some-clause-copy g c).In-Ok-Some found.0 found.1 in
    let asked = counted g (goal.at.returns-in-Some-clause-copy g c).After-send_entry in (
      begun.0,
      begun.1,
      settles_at_end c.entries.settled _ c.in-Some.answer begun.0 found.0 after c.in-Ok-Some.entry begun.2 first c.in-Some.ensures.cause.0 found.2,
      bound_at c.args.by.tries (c.entries.settled + 1) c.send_entry.new.count _ _ _ (bound_next c.args.by.tries c.entries.settled c.entries.count c.send_entry.new.count c.entries.invariant.bound c.send_entry.ensures.count.1) asked.most
          (entry_left c.entries.settled begun.0 found.0 c.in-Ok-Some.entry begun.2 first),
    )

pub returns-in-Some-clause-link : goal.returns-in-Some-clause-link
returns-in-Some-clause-link g c told tells =
    let sent = c.in-Some.ensures.link told tells in
    let start = c.entries.invariant.link sent.0 sent.1 in
    (start.0, start.1, moved_on start.2 sent.2)

pub returns-in-Some-clause-agree : goal.returns-in-Some-clause-agree
returns-in-Some-clause-agree g c entry after told stands tells =
    (c.send_entry.new.count, c.in-Some.ensures.agree (λ (found : Copy) (sent : LinkState) stands tells. c.entries.invariant.agree entry found sent (c.next_unsettled.ensures.same found stands) tells) after told stands tells)

pub returns-in-Some-clause-told : goal.returns-in-Some-clause-told
returns-in-Some-clause-told g c entry after told stands tells =
    let sent = c.in-Some.ensures.told (λ (found : Copy) (sent : LinkState) stands tells. c.entries.invariant.agree entry found sent (c.next_unsettled.ensures.same found stands) tells) after told stands tells in
    let start = c.entries.invariant.link sent.0 sent.1 in
    (start.0, start.1, told_on c.args.by.token.now start.0 sent.0 told after.entries c.in-Some.answer start.2 sent.2)

pub returns-in-Some-clause-complete : goal.returns-in-Some-clause-complete
returns-in-Some-clause-complete g c entry link copy after told stands tells =
    let found = c.in-Some.ensures.copy after stands in
    let begun = so_far g (goal.at.returns-in-Some-clause-complete g c).After-next_unsettled found.0 found.1 in
    let first = first_is g (goal.at.returns-in-Some-clause-complete g c).In-Ok-Some found.0 found.1 in
    let sent = c.in-Some.ensures.complete (λ (found : Copy) (sent : LinkState) stands tells. c.entries.invariant.agree entry found sent (c.next_unsettled.ensures.same found stands) tells)
    (λ rose. link (omega (arith, rose, c.entries.invariant.heard))) (λ rose. copy (omega (arith, rose, c.entries.invariant.later, c.next_unsettled.ensures.later))) after told stands tells in
    let start = c.entries.invariant.link sent.0 sent.1 in (
      begun.0,
      start.0,
      begun.1,
      start.1,
      λ quiet can. sent.2 (λ rose. quiet (let low = start.2.counts in omega (arith, rose, low)))
          (can_send c.args.by.token.now c.entries.settled start.0 sent.0 told.hub begun.0 found.0 c.in-Ok-Some.entry start.2 begun.2 first can),
    )

pub returns-in-Some-clause-not_last : goal.returns-in-Some-clause-not_last
returns-in-Some-clause-not_last g c = end_not_last c.in-Some.answer c.in-Some.ensures.cause.0

pub returns-in-Some-clause-cause : goal.returns-in-Some-clause-cause
returns-in-Some-clause-cause g c = (
  c.send_entry.new.count,
  counted g (goal.at.returns-in-Some-clause-cause g c).After-send_entry,
  cause_more _ c.args.by.run c.send_entry.new.count _ _ _ _ c.in-Some.answer (λ m. (m.0, m.1, rose_from c.args.by.tries _ _ _ c.entries.invariant.heard m.2))
      (λ rose. omega (arith, rose, c.entries.invariant.later, c.next_unsettled.ensures.later)) c.in-Some.ensures.cause.1,
  λ reply own. c.in-Some.ensures.exact reply own,
  λ after stands. end_names c.in-Some.answer after.entries c.in-Ok-Some.entry c.in-Some.ensures.cause.0 (λ ends. c.in-Some.ensures.stays after stands ends) c.in-Some.ensures.names,
  λ ends. c.in-Some.ensures.last ends,
)

-- ---- it is settled

pub entries-preserved : goal.entries-preserved
entries-preserved g c =
    let can : CanBeEntry c.entries.after c.in-Ok-Some.entry = subst (λ (o : Option OutEntry). IfSome o (CanBeEntry c.entries.after)) c.in-Ok-Some.field-0-is c.in-Ok-Some.ensures.any in
    record {
      walked = λ after stands.
          let found = c.in-None.ensures.copy after stands in
          settles_up_to _ found.0 after c.in-Ok-Some.entry (g.met.C.CopyKeeper.is_copy c.next_unsettled.new.copy found.0 found.1) (first_is g (goal.at.entries-preserved g c).In-Ok-Some found.0 found.1) found.2;
      few = omega (arith, can.above, c.entries.invariant.few);
      room = omega (arith, c.entries.invariant.room, c.send_entry.ensures.count.1, c.requires.tries.1);
      bound = bound_next c.args.by.tries c.entries.settled c.entries.count c.send_entry.new.count c.entries.invariant.bound c.send_entry.ensures.count.1;
      asked = counted g (goal.at.entries-preserved g c).After-send_entry;
      kept = λ reply own. c.in-None.ensures.exact reply own;
      copy = λ after stands.
          let found = c.in-None.ensures.copy after stands in
          let begun = so_far g (goal.at.entries-preserved g c).After-next_unsettled found.0 found.1 in
          (begun.0, begun.1, settles_on c.entries.settled _ begun.0 found.0 after c.in-Ok-Some.entry begun.2 (first_is g (goal.at.entries-preserved g c).In-Ok-Some found.0 found.1) found.2);
      link = λ told tells.
          let sent = c.in-None.ensures.link told tells in
          let start = c.entries.invariant.link sent.0 sent.1 in
          (start.0, start.1, moved_on start.2 sent.2);
      sends = λ after told stands tells.
          let found = c.in-None.ensures.copy after stands in
          let sent = c.in-None.ensures.asks told tells in
          let start = c.entries.invariant.sends found.0 sent.0 (c.next_unsettled.ensures.same found.0 found.1) sent.1 in
          let first = first_is g (goal.at.entries-preserved g c).In-Ok-Some found.0 found.1 in (
            start.0,
            start.1,
            start.2,
            start.3,
            settles_on c.entries.settled _ start.0 found.0 after c.in-Ok-Some.entry start.4 first found.2,
            sends_entry c.args.by.token.now c.entries.settled c.args.by.run c.entries.count c.send_entry.new.count start.0 found.0 c.in-Ok-Some.entry _ ⊥ _ _ _ start.4 first (λ e. absurd (none-some _ e)) start.5 sent.2,
          );
      agree = λ entry after told stands tells. c.in-None.ensures.agree (λ (found : Copy) (sent : LinkState) stands tells. c.entries.invariant.agree entry found sent (c.next_unsettled.ensures.same found stands) tells) after told stands tells;
      heard = omega (arith, c.entries.invariant.heard, c.send_entry.ensures.heard);
      copy_leads = g.met.C.CopyKeeper.leads_on _ _ _ c.entries.invariant.copy_leads (g.met.C.CopyKeeper.leads_on _ _ _ c.next_unsettled.ensures.copy_leads c.send_entry.ensures.copy_leads);
      link_leads = g.met.L.Link.leads_on _ _ _ c.entries.invariant.link_leads c.send_entry.ensures.link_leads;
      later = omega (arith, c.entries.invariant.later, c.next_unsettled.ensures.later, c.send_entry.ensures.later);
    }

-- ---- no number follows

pub returns-clause-copy : goal.returns-clause-copy
returns-clause-copy g c after stands =
    let begun = c.entries.invariant.copy after stands in
    let is = g.met.C.CopyKeeper.is_copy c.entries.copy after stands in
    let none : first_unsettled after.entries ≡ None = walk_over c.entries.after after.last_number LAST after.entries (omega (arith, c.entries-test.false)) is.last is.entries.below (c.entries.invariant.walked after stands) in
    (begun.0, begun.1, (c.entries.settled, begun.2, (refl, none)), bound_at c.args.by.tries c.entries.settled c.entries.count _ _ _ c.entries.invariant.bound c.entries.invariant.asked.most begun.2.entries.enough)

pub returns-clause-agree : goal.returns-clause-agree
returns-clause-agree g c entry after told stands tells = (c.entries.count, c.entries.invariant.agree entry after told stands tells)

pub returns-clause-told : goal.returns-clause-told
returns-clause-told g c entry after told stands tells = let start = c.entries.invariant.link told tells in (start.0, start.1, tt)

pub returns-clause-complete : goal.returns-clause-complete
returns-clause-complete g c entry link copy after told stands tells =
    let begun = c.entries.invariant.copy after stands in
    let start = c.entries.invariant.link told tells in
    (begun.0, start.0, begun.1, start.1, λ quiet can. tt)

pub returns-clause-cause : goal.returns-clause-cause
returns-clause-cause g c = (c.entries.count, c.entries.invariant.asked, tt, λ reply own. inr (settled_exact reply _ (c.entries.invariant.kept reply own)), λ after stands. tt, λ ends. absurd ends)

-- ---- what was sent

pub returns-in-Err-clause-asks : goal.returns-in-Err-clause-asks
returns-in-Err-clause-asks g c = (
  c.entries.count,
  c.entries.invariant.asked,
  λ after told stands tells.
      let start = c.entries.invariant.sends after told (c.next_unsettled.ensures.same after stands) tells in (
        start.0,
        start.1,
        start.2,
        start.3,
        all_sent c.args.by.token.now start.0.entries c.args.by.run c.entries.count _ _ _ start.5,
        aside_tried c.in-Err.answer c.args.by.token.now c.args.by.run c.entries.count c.args.by.tries after.entries told.sent
            c.in-Err.ensures.cause.0,
      ),
)

pub returns-in-Ok-None-clause-asks : goal.returns-in-Ok-None-clause-asks
returns-in-Ok-None-clause-asks g c = (
  c.entries.count,
  c.entries.invariant.asked,
  λ after told stands tells.
      let start = c.entries.invariant.sends after told (c.next_unsettled.ensures.same after stands) tells in
      (start.0, start.1, start.2, start.3, all_sent c.args.by.token.now start.0.entries c.args.by.run c.entries.count _ _ _ start.5, tt),
)

pub returns-in-Some-clause-asks : goal.returns-in-Some-clause-asks
returns-in-Some-clause-asks g c = (
  c.send_entry.new.count,
  counted g (goal.at.returns-in-Some-clause-asks g c).After-send_entry,
  λ after told stands tells.
      let found = c.in-Some.ensures.copy after stands in
      let sent = c.in-Some.ensures.asks told tells in
      let start = c.entries.invariant.sends found.0 sent.0 (c.next_unsettled.ensures.same found.0 found.1) sent.1 in
      let first = first_is g (goal.at.returns-in-Some-clause-asks g c).In-Ok-Some found.0 found.1 in (
        start.0,
        start.1,
        start.2,
        start.3,
        sends_entry c.args.by.token.now c.entries.settled c.args.by.run c.entries.count c.send_entry.new.count start.0 found.0 c.in-Ok-Some.entry _ _ _ _ _ start.4 first (λ e. same_Some _ _ e) start.5 sent.2,
        entry_tried c.in-Some.answer c.args.by.token.now c.args.by.run c.entries.count c.send_entry.new.count c.args.by.tries c.in-Ok-Some.entry after.entries _ _ (λ ends. c.in-Some.ensures.stays after stands ends) c.in-Some.ensures.full sent.2,
      ),
)

pub returns-clause-asks : goal.returns-clause-asks
returns-clause-asks g c = (
  c.entries.count,
  c.entries.invariant.asked,
  λ after told stands tells.
      let start = c.entries.invariant.sends after told stands tells in
      (start.0, start.1, start.2, start.3, all_sent c.args.by.token.now start.0.entries c.args.by.run c.entries.count _ _ _ start.5, tt),
)

-- ---- what was called

pub returns-in-Err-clause-copy_leads : goal.returns-in-Err-clause-copy_leads
returns-in-Err-clause-copy_leads g c = g.met.C.CopyKeeper.leads_on _ _ _ c.entries.invariant.copy_leads c.next_unsettled.ensures.copy_leads

pub returns-in-Ok-None-clause-copy_leads : goal.returns-in-Ok-None-clause-copy_leads
returns-in-Ok-None-clause-copy_leads g c = g.met.C.CopyKeeper.leads_on _ _ _ c.entries.invariant.copy_leads c.next_unsettled.ensures.copy_leads

pub returns-in-Some-clause-copy_leads : goal.returns-in-Some-clause-copy_leads
returns-in-Some-clause-copy_leads g c =
    g.met.C.CopyKeeper.leads_on _ _ _ c.entries.invariant.copy_leads (g.met.C.CopyKeeper.leads_on _ _ _ c.next_unsettled.ensures.copy_leads c.send_entry.ensures.copy_leads)

pub returns-in-Some-clause-link_leads : goal.returns-in-Some-clause-link_leads
returns-in-Some-clause-link_leads g c = g.met.L.Link.leads_on _ _ _ c.entries.invariant.link_leads c.send_entry.ensures.link_leads
