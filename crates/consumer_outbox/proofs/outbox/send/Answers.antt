use Rattle.std.proofs.Common.{arith, ◌≡◌, List, sym, ap, subst}
use Rattle.keeper_memory.specs.copy.Copies.{Copy}
use Rattle.exchange_link.proofs.AskedLemmas.{sends_refl}
use Rattle.exchange_link.specs.Asked.{IsWriteUnder, SendsOn, TriedEntry}
use Rattle.exchange_link.specs.Exchanges.{LinkState}
use Rattle.exchange_link.specs.declared.send_answer.SendAnswer.TheVariants as answer
use Rattle.keeper_memory.specs.declared.copy.entry.OutEntry.{OutEntry}
use Rattle.exchange_link.specs.SendCauses.{SendLastLaw}
use Rattle.exchange_link.specs.SendCompleteness.{IsFine}
use Rattle.exchange_link.specs.Sent.{SendLeaves}
use Rattle.exchange_link.specs.SentTold.{WasSent}
use Rattle.consumer_outbox.proofs.AllLemmas.{cause_more, more_none}
use Rattle.consumer_outbox.proofs.CallLemmas.{agree_ended, bound_begun, can_begun, last_ended, leaves_ended}
use Rattle.consumer_outbox.proofs.CallLemmas.{ready_begun, run_is, start_fine, start_last, start_leaves, start_told}
use Rattle.consumer_outbox.proofs.CallLemmas.{started_caused}
use Rattle.consumer_outbox.proofs.TriedLemmas.{begun_tried}
use Rattle.consumer_outbox.proofs.outbox.send.Goals as goal

pub returns-in-Err-clause-copy : goal.returns-in-Err-clause-copy
returns-in-Err-clause-copy g c after stands =
    let x = c.in-Err.ensures.told after stands in
    (x.0, x.1, subst (λ a. SendLeaves a x.0 after) (sym c.not_begun.ensures) (start_leaves c.in-Err.why x.0 after x.2), omega arith)

pub returns-in-Err-clause-last_run : goal.returns-in-Err-clause-last_run
returns-in-Err-clause-last_run g c after stands =
    let x = c.in-Err.ensures.told after stands in
    (x.0, x.1, subst (λ a. SendLastLaw a x.0 after) (sym c.not_begun.ensures) (start_last c.in-Err.why x.0 after x.2))

pub returns-in-Err-clause-cause : goal.returns-in-Err-clause-cause
returns-in-Err-clause-cause g c =
    started_caused c.args.token.now c.args.tries _ _ (more_none _) c.in-Err.why c.not_begun.result c.not_begun.ensures c.in-Err.ensures.cause

pub returns-in-Err-clause-told : goal.returns-in-Err-clause-told
returns-in-Err-clause-told g c agree after tells stands told =
    let x = c.in-Err.ensures.told after stands in
    (x.0, tells, x.1, told, subst (λ a. WasSent c.args.token.now a x.0 tells after tells) (sym c.not_begun.ensures) (start_told c.in-Err.why c.args.token.now x.0 after tells x.2 (agree x.0 tells x.1 told)))

pub returns-in-Err-clause-complete : goal.returns-in-Err-clause-complete
returns-in-Err-clause-complete g c agree link copy after tells stands told =
    let x = c.in-Err.ensures.told after stands in
    (x.0, tells, x.1, told, λ low quiet can. subst IsFine (sym c.not_begun.ensures) (start_fine c.in-Err.why _ x.0 after x.2 c.in-Err.ensures.cause copy low))

pub returns-in-Ok-clause-copy : goal.returns-in-Ok-clause-copy
returns-in-Ok-clause-copy g c after stands =
    let y = c.send_all.ensures.copy after stands in
    let x = c.in-Ok.ensures.told y.0 y.1 in
    (x.0, x.1, leaves_ended c.in-Ok.state c.send_all.result y.2.0 x.0 y.0 after x.2 y.2.1 y.2.2, bound_begun c.in-Ok.state c.args.tries _ _ x.0 y.0 x.2 y.3)

pub returns-in-Ok-clause-last_run : goal.returns-in-Ok-clause-last_run
returns-in-Ok-clause-last_run g c after stands =
    let y = c.send_all.ensures.copy after stands in
    let x = c.in-Ok.ensures.told y.0 y.1 in
    (x.0, x.1, last_ended c.in-Ok.state c.send_all.result x.0 y.0 after x.2 c.in-Ok.ensures.run.1 c.send_all.ensures.not_last)

pub returns-in-Ok-clause-cause : goal.returns-in-Ok-clause-cause
returns-in-Ok-clause-cause g c =
    let y = c.send_all.ensures.cause in
    record {
      run = c.in-Ok.state.run;
      count = y.0;
      counts = y.1;
      runs = λ some d stands.
          let z = c.send_all.ensures.copy d stands in
          let x = c.in-Ok.ensures.told z.0 z.1 in
          run_is c.in-Ok.state z.2.0 x.0 z.0 d x.2 z.2.1;
      only = cause_more _ c.in-Ok.state.run y.0 _ _ _ _ c.send_all.result (λ m. m) (λ rose. omega (arith, rose, c.begin_run.ensures.later)) y.2;
      exact = y.3;
      names = y.4;
      last = y.5;
    }

pub returns-in-Ok-clause-told : goal.returns-in-Ok-clause-told
returns-in-Ok-clause-told g c agree after tells stands told =
    let y = c.send_all.ensures.copy after stands in
    let x = c.in-Ok.ensures.told y.0 y.1 in
    let m = c.send_all.ensures.link tells told in
    let k = c.send_all.ensures.agree (λ (d : Copy) (u : LinkState) sd tu. let x2 = c.in-Ok.ensures.told d sd in ready_begun c.in-Ok.state x2.0 d u x2.2 (agree x2.0 u x2.1 tu)) after tells stands told in
    let z = c.send_all.ensures.told (λ (d : Copy) (u : LinkState) sd tu. let x2 = c.in-Ok.ensures.told d sd in ready_begun c.in-Ok.state x2.0 d u x2.2 (agree x2.0 u x2.1 tu)) after tells stands told in (
      x.0,
      z.0,
      x.1,
      z.1,
      record {
        leaves = leaves_ended c.in-Ok.state c.send_all.result y.2.0 x.0 y.0 after x.2 y.2.1 y.2.2;
        agree = agree_ended c.in-Ok.state y.2.0 k.0 x.0 y.0 after m.0 tells x.2 y.2.1 m.2 (agree x.0 m.0 x.1 m.1) k.1;
        cause = z.2;
      },
    )

pub returns-in-Ok-clause-complete : goal.returns-in-Ok-clause-complete
returns-in-Ok-clause-complete g c agree link copy after tells stands told =
    let y = c.send_all.ensures.complete (λ (d : Copy) (u : LinkState) sd tu. let x2 = c.in-Ok.ensures.told d sd in ready_begun c.in-Ok.state x2.0 d u x2.2 (agree x2.0 u x2.1 tu)) link (λ rose. copy (omega (arith, rose, c.begin_run.ensures.later))) after tells stands told in
    let x = c.in-Ok.ensures.told y.0 y.2 in
    (x.0, y.1, x.1, y.3, λ low quiet can. y.4 quiet (can_begun c.in-Ok.state c.args.token.now _ x.0 y.0 tells.hub x.2 can))

pub returns-in-Err-clause-asks : goal.returns-in-Err-clause-asks
returns-in-Err-clause-asks g c after tells stands told =
    let x = c.in-Err.ensures.told after stands in (
      x.0,
      tells,
      x.1,
      told,
      record {
        run = 0;
        count = 0;
        runs = λ some. absurd (omega (arith, some));
        counts = record { least = omega arith; most = omega arith };
        writes = sends_refl (IsWriteUnder c.args.token.now x.0.entries) 0 0 _ tells.sent;
        tried = subst (λ a. TriedEntry a c.args.token.now 0 0 c.args.tries after.entries tells.sent) (sym c.not_begun.ensures) (begun_tried c.in-Err.why c.args.token.now 0 0 c.args.tries after.entries tells.sent);
      },
    )

pub returns-in-Ok-clause-asks : goal.returns-in-Ok-clause-asks
returns-in-Ok-clause-asks g c after tells stands told =
    let f = c.send_all.ensures.asks in
    let z = f.2 after tells stands told in
    let x = c.in-Ok.ensures.told z.0 z.2 in
    let k = c.send_all.ensures.copy after stands in
    let y = c.in-Ok.ensures.told k.0 k.1 in (
      x.0,
      z.1,
      x.1,
      z.3,
      record {
        run = c.in-Ok.state.run;
        count = f.0;
        runs = λ some. run_is c.in-Ok.state k.2.0 y.0 k.0 after y.2 k.2.1;
        counts = f.1;
        writes = subst (λ (es : List OutEntry). SendsOn (IsWriteUnder c.args.token.now es) c.in-Ok.state.run 0 f.0 (c.send_all.result ≡ answer.NoMemory) (z.1).sent tells.sent) (ap (λ (d : Copy). d.entries) (x.2).1) z.4;
        tried = z.5;
      },
    )

pub returns-in-Err-clause-link_leads : goal.returns-in-Err-clause-link_leads
returns-in-Err-clause-link_leads g c = g.met.L.Link.stays _

pub returns-in-Ok-clause-copy_leads : goal.returns-in-Ok-clause-copy_leads
returns-in-Ok-clause-copy_leads g c = g.met.C.CopyKeeper.leads_on _ _ _ c.begin_run.ensures.copy_leads c.send_all.ensures.copy_leads
