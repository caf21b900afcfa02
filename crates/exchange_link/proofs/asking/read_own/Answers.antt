use Rattle.exchange_link.proofs.TextLemmas.{refused}
use Rattle.exchange_link.proofs.asking.read_own.Goals as goal

pub returns-in_default : goal.returns-in_default
returns-in_default c = record {
  own = tt;
  none = λ e. refused c.in-Err.fault c.args.bytes.now c.in_default.not-NoMemory c.in-Err.ensures;
  missed = λ e. cc;
}
