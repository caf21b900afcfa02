use Rattle.std.proofs.Common.{◌≡◌, ◌∙◌, refl, sym, subst}
use Rattle.std.specs.Prelude.{is_none}
use Rattle.keeper_memory.specs.declared.copy.entry.OutEntry.{OutEntry}
use Rattle.hub_spec.proofs.Below.{found_passes}
use Rattle.http_wire.proofs.AnswerLemmas.{one_answer}
use Rattle.http_wire.specs.declared.reply_reading.WireReply.{WireReply}
use Rattle.hub_spec.specs.marks.Marked.{mark_of}
use Rattle.status_info.specs.declared.request.Request.{Request}
use Rattle.exchange_link.proofs.AskLemmas.{missed_other, none_other, own_other}
use Rattle.consumer_outbox.proofs.TriedLemmas.{own_ends, sends_try}
use Rattle.exchange_link.specs.Exchanges.{LinkState}
use Rattle.exchange_link.specs.Owning.{IsOwnRead}
use Rattle.exchange_link.specs.Requests.{number, numbered}
use Rattle.consumer_outbox.specs.Sends.{ExactIf, request_of}
use Rattle.consumer_outbox.specs.Verdicts.{verdict_of}
use Rattle.consumer_outbox.proofs.OwnLemmas.{IsSaid, ready_asked, ready_taken, said_of, taken_fine, taken_told}
use Rattle.consumer_outbox.proofs.StepLemmas.{carries_first, stays_first, takes_any}
use Rattle.consumer_outbox.proofs.VerdictLemmas.{exact_of, taken_cause}
use Rattle.consumer_outbox.proofs.sending.send_entry.Given.{Over}
use Rattle.consumer_outbox.proofs.sending.send_entry.Goals.{In-Own}
use Rattle.consumer_outbox.proofs.sending.send_entry.Goals as goal

-- what was sent, under the number of the last try
module _ (g : Over) (c : In-Own g) where
  abbrev sent : Request
  sent = numbered (request_of c.args.by.token.now c.args.entry) (number c.args.by.run c.ask_for.new.count)

  -- what the hub's own reply to it says
  own_said : (before after : LinkState) → IsOwnRead before after sent c.in-Own.reply
      → IsSaid before after c.args.by.token.now (mark_of c.args.entry) c.in-Own.reply
  own_said before after own =
      let last = c.in-Own.ensures.last (own_other c.in-Own.reply) in
      said_of before after sent c.args.by.token.now (mark_of c.args.entry) c.in-Own.reply refl last.0 own

pub returns-in-Own-clause-copy : goal.returns-in-Own-clause-copy
returns-in-Own-clause-copy g c after stands = let x = c.take_reply.ensures.told after stands in (x.0, x.1, takes_any _ _ _ _ _ x.2)

pub returns-in-Own-clause-agree : goal.returns-in-Own-clause-agree
returns-in-Own-clause-agree g c entry d t stands tells =
    let token = c.args.by.token.now in
    let here = (goal.at.returns-in-Own-clause-agree g c).In-Own in
    let x = c.take_reply.ensures.told d stands in
    let y = c.in-Own.ensures.told t tells in
    let ready = entry x.0 y.0 x.1 y.1 in
    let first = c.requires.first x.0 x.1 in
    let last = c.in-Own.ensures.last (own_other c.in-Own.reply) in
    let said = own_said g here y.0 t (y.3 ready.numbers) in
    let is = g.met.C.CopyKeeper.is_copy c.args.copy.now x.0 x.1 in
    ready_taken y.0 t token c.args.entry c.in-Own.reply said c.args.by.run c.ask_for.new.count (sent g here)
    c.take_reply.result x.0 d first refl last.0 (last.1 t tells) x.2
    (ready_asked token c.args.entry c.args.by.run c.args.count.now c.ask_for.new.count x.0 y.0 t y.2 first is ready)

pub returns-in-Own-clause-told : goal.returns-in-Own-clause-told
returns-in-Own-clause-told g c entry d t stands tells =
    let token = c.args.by.token.now in
    let here = (goal.at.returns-in-Own-clause-told g c).In-Own in
    let x = c.take_reply.ensures.told d stands in
    let y = c.in-Own.ensures.told t tells in
    let ready = entry x.0 y.0 x.1 y.1 in
    let said = own_said g here y.0 t (y.3 ready.numbers) in
    (y.0, y.1, taken_told y.0 t token c.args.entry c.in-Own.reply said c.take_reply.result x.0 d (c.requires.first x.0 x.1) x.2 c.take_reply.ensures.answer)

pub returns-in-Own-clause-complete : goal.returns-in-Own-clause-complete
returns-in-Own-clause-complete g c entry link copy d t stands tells =
    let token = c.args.by.token.now in
    let here = (goal.at.returns-in-Own-clause-complete g c).In-Own in
    let x = c.take_reply.ensures.told d stands in
    let y = c.in-Own.ensures.told t tells in
    let ready = entry x.0 y.0 x.1 y.1 in
    let said = own_said g here y.0 t (y.3 ready.numbers) in
    let yet = found_passes (λ (e : OutEntry). is_none e.settled) x.0.entries c.args.entry (c.requires.first x.0 x.1) in
    (y.0, y.1, λ quiet can. taken_fine y.0 t token c.args.entry c.in-Own.reply said c.take_reply.result (g.met.L.Link.is_hub c.ask_for.new.link t tells) quiet can yet (λ e. copy (c.take_reply.ensures.cause e)) c.take_reply.ensures.answer)

pub returns-in-Own-clause-cause : goal.returns-in-Own-clause-cause
returns-in-Own-clause-cause g c = taken_cause _ c.args.by.run c.ask_for.new.count _ _ c.args.entry.number c.in-Own.reply c.take_reply.result c.in-Own.ensures.own c.take_reply.ensures.answer c.take_reply.ensures.cause

pub returns-in-Own-clause-exact : goal.returns-in-Own-clause-exact
returns-in-Own-clause-exact g c w own =
    let same : c.in-Own.reply ≡ w = one_answer _ c.in-Own.reply w c.in-Own.ensures.own.text own.text in
    subst (λ (r : WireReply). ExactIf r c.take_reply.result) same (exact_of c.args.entry.number c.in-Own.reply c.take_reply.result c.take_reply.ensures.answer)

pub returns-in-Own-clause-stays : goal.returns-in-Own-clause-stays
returns-in-Own-clause-stays g c d stands ends =
    let x = c.take_reply.ensures.told d stands in
    stays_first _ c.args.entry.number c.take_reply.result x.0 d c.args.entry x.2 ends (c.requires.first x.0 x.1)

pub returns-in-Own-clause-last : goal.returns-in-Own-clause-last
returns-in-Own-clause-last g c ends = (
  c.in-Own.ensures.own.from,
  λ d t stands tells.
      let x = c.take_reply.ensures.told d stands in
      let last = c.in-Own.ensures.last (own_other c.in-Own.reply) in
      carries_first c.args.by.token.now (number c.args.by.run c.ask_for.new.count) d.entries t.sent c.args.entry (stays_first _ c.args.entry.number c.take_reply.result x.0 d c.args.entry x.2 ends (c.requires.first x.0 x.1)) (last.1 t tells) last.0,
)

pub returns-in-NoReply-clause-exact : goal.returns-in-NoReply-clause-exact
returns-in-NoReply-clause-exact g c w own = absurd ((c.in-NoReply.ensures.none refl).1 w own.text)

pub returns-in-Missed-clause-agree : goal.returns-in-Missed-clause-agree
returns-in-Missed-clause-agree g c entry d t stands tells =
    let y = c.ask_for.ensures.told t tells in
    ready_asked c.args.by.token.now c.args.entry c.args.by.run c.args.count.now c.ask_for.new.count d y.0 t y.2 (c.requires.first d stands) (g.met.C.CopyKeeper.is_copy c.args.copy.now d stands) (entry d y.0 stands y.1)

pub returns-in-Missed-clause-exact : goal.returns-in-Missed-clause-exact
returns-in-Missed-clause-exact g c w own = absurd ((c.in-Missed.ensures.missed refl).3 w own.text own.number)

pub returns-in-NoMemory-clause-agree : goal.returns-in-NoMemory-clause-agree
returns-in-NoMemory-clause-agree g c entry d t stands tells =
    let y = c.ask_for.ensures.told t tells in
    ready_asked c.args.by.token.now c.args.entry c.args.by.run c.args.count.now c.ask_for.new.count d y.0 t y.2 (c.requires.first d stands) (g.met.C.CopyKeeper.is_copy c.args.copy.now d stands) (entry d y.0 stands y.1)

pub returns-in-NoMemory-clause-complete : goal.returns-in-NoMemory-clause-complete
returns-in-NoMemory-clause-complete g c entry link copy d t stands tells =
    let y = c.ask_for.ensures.told t tells in
    (y.0, y.1, λ quiet can. tt)

pub returns-in-Own-clause-asks : goal.returns-in-Own-clause-asks
returns-in-Own-clause-asks g c after tells =
    let y = c.ask_for.ensures.asks after tells in
    (y.0, y.1, sends_try c.args.by.token.now c.args.entry c.args.by.run c.args.count.now c.ask_for.new.count _ _ _ _ (λ e. absurd (own_other c.in-Own.reply (sym c.in-Own.is ∙ e))) y.2)

pub returns-in-Own-clause-full : goal.returns-in-Own-clause-full
returns-in-Own-clause-full g c ends = absurd (own_ends (verdict_of c.args.entry.number c.in-Own.reply) c.args.entry.number c.take_reply.result c.take_reply.ensures.answer ends)

pub returns-in-NoReply-clause-asks : goal.returns-in-NoReply-clause-asks
returns-in-NoReply-clause-asks g c after tells =
    let y = c.ask_for.ensures.asks after tells in
    (y.0, y.1, sends_try c.args.by.token.now c.args.entry c.args.by.run c.args.count.now c.ask_for.new.count _ _ _ _ (λ e. absurd (none_other (sym c.in-NoReply.is ∙ e))) y.2)

pub returns-in-Missed-clause-asks : goal.returns-in-Missed-clause-asks
returns-in-Missed-clause-asks g c after tells =
    let y = c.ask_for.ensures.asks after tells in
    (y.0, y.1, sends_try c.args.by.token.now c.args.entry c.args.by.run c.args.count.now c.ask_for.new.count _ _ _ _ (λ e. absurd (missed_other (sym c.in-Missed.is ∙ e))) y.2)

pub returns-in-Missed-clause-full : goal.returns-in-Missed-clause-full
returns-in-Missed-clause-full g c ends = (c.in-Missed.ensures.missed refl).0

pub returns-in-NoMemory-clause-asks : goal.returns-in-NoMemory-clause-asks
returns-in-NoMemory-clause-asks g c after tells =
    let y = c.ask_for.ensures.asks after tells in
    (y.0, y.1, sends_try c.args.by.token.now c.args.entry c.args.by.run c.args.count.now c.ask_for.new.count _ _ _ _ (λ e. refl) y.2)
