use Rattle.std.proofs.Common.{◌≡◌, ⊎_elim, Some, ◌∙◌, ap}
use Rattle.exchange_link.specs.Exchanges.{Carries}
use Rattle.http_wire.specs.Answers.{IsReplyText}
use Rattle.http_wire.specs.declared.reply_reading.WireReply.{WireReply}
use Rattle.http_wire.proofs.AnswerLemmas.{one_answer}
use Rattle.outside_ports.specs.declared.failed.IoError.{IoError}
use Rattle.std.specs.Prelude.{Result, Err}
use Rattle.exchange_link.proofs.AskLemmas.{is_reply, own_map, tries_ok}
use Rattle.exchange_link.proofs.TextLemmas.{none_empty}
use Rattle.exchange_link.proofs.asking.once.Goals as goal

pub returns-in-Ok-clause-own : goal.returns-in-Ok-clause-own
returns-in-Ok-clause-own g c = rw c.read_kept.ensures.same c.read_kept.ensures.own

pub returns-in-Ok-clause-none : goal.returns-in-Ok-clause-none
returns-in-Ok-clause-none g c e =
    rw c.read_kept.ensures.same (
      c.read_kept.ensures.none e,
      λ after tells.
          let q = c.requires in
          let x = c.in-Ok.ensures.told q.0 q.1 after tells in
          is_reply x.0 after q.0 _ _ (x.2).replies (c.read_kept.ensures.none e),
    )

pub returns-in-Ok-clause-missed : goal.returns-in-Ok-clause-missed
returns-in-Ok-clause-missed g c e =
    let k = g.L.Link.kept c.exchange.new.self in
    let m = c.read_kept.ensures.missed e in
    let q = c.requires in
    let other : (w : WireReply) → IsReplyText k w → w.echo ≡ Some c.args.number → ⊥ =
    λ w is echo. m.2 (ap (λ (r : WireReply). r.echo) (one_answer k m.0 w m.1 is) ∙ echo) in
    rw c.read_kept.ensures.same (⊎_elim (λ (x : Carries k (q.0).echo). absurd (other x.0 x.1 (x.2 ∙ q.2))) (λ x. x) (c.in-Ok.ensures.own q.0 q.1), other)

pub returns-in-Ok-clause-told : goal.returns-in-Ok-clause-told
returns-in-Ok-clause-told g c q is after tells =
    let x = c.in-Ok.ensures.told q is after (rw c.read_kept.ensures.same at tells) in (
      x.0,
      x.1,
      tries_ok q c.read_kept.result _ _ x.0 after x.2 (own_map c.read_kept.result _ _ (λ w y. y.0) c.read_kept.ensures.own),
    )

pub returns-in-Err-Failed-clause-missed : goal.returns-in-Err-Failed-clause-missed
returns-in-Err-Failed-clause-missed g c e =
    (c.in-Err-Failed.ensures.failed (ap (λ (x : IoError). let r : Result (Unit {0}) IoError = Err x in r) c.in-Err-Failed.field-0-is), λ w is echo. none_empty _ c.in-Err-Failed.ensures.kept w is)
