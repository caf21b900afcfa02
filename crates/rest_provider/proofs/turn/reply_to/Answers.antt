use Rattle.std.proofs.Common.{refl}
use Rattle.rest_provider.proofs.turn.reply_to.Goals as goal

pub returns-clause-answered : goal.returns-clause-answered
returns-clause-answered g c =
    let (failed, counts, led) = c.answer-reply.ensures.step in (
      record { request = c.args.request.now; at = c.moment_of-at.result; reply = c.answer-reply.result },
      refl,
      c.write_reply-written.ensures.bytes,
      record { at = c.moment_of-at.ensures; failed = failed; count = counts; told = led },
    )
