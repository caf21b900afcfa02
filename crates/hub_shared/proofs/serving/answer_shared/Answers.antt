use Rattle.std.proofs.Common.{◌∙◌, sym}
use Rattle.hub_shared.proofs.serving.answer_shared.Goals as goal

pub returns-in_default : goal.returns-in_default
returns-in_default g c = rw (c.in_default.is, sym c.is_write.ensures ∙ c.if-is_write.true) (c.write-reply.result.1, (c.moment_of.result, c.moment_of.ensures, c.write-reply.ensures))
