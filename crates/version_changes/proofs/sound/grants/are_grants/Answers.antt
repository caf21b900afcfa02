use Rattle.std.proofs.Common.{sym, ◌∙◌}
use Rattle.version_changes.proofs.GrantLemmas.{up_to}
use Rattle.version_changes.proofs.sound.grants.are_grants.Goals as goal

pub returns : goal.returns
returns c = λ yes. record {
  rise = c.rise.ensures c.if-not-rise.false;
  tokens = c.tokens_differ.ensures c.if-not-tokens_differ.false;
  since = up_to c.args.number c.args.grants.now (sym c.are_up_to.ensures ∙ yes);
}
