use Rattle.roster_texts.proofs.TokenLemmas.{no_text}
use Rattle.roster_texts.proofs.token.Token.from_bytes.Goals as goal

pub returns-in-Err-clause-value : goal.returns-in-Err-clause-value
returns-in-Err-clause-value c = no_text c.args.bytes.now c.in-Err.ensures.cases.0
