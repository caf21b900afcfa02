-- What sending the entries leaves, over a link that tells.
use Rattle.std.specs.Prelude.{ℕ, List}
use Rattle.keeper_memory.specs.copy.Copies.{Copy}
use Rattle.exchange_link.specs.Exchanges.{LinkState}
use Rattle.exchange_link.specs.Marks.{Agree}
use Rattle.exchange_link.specs.SendCauses.{SendToldCause}
use Rattle.exchange_link.specs.Sent.{SendLeaves}
use Rattle.exchange_link.specs.declared.send_answer.SendAnswer.{SendAnswer}

-- the same over a link that tells, where copy and link agreed
pub record WasSent (token : List ℕ) (a : SendAnswer) (before : Copy) (told : LinkState) (after : Copy) (tells : LinkState) : Type 0 where
  pub leaves : SendLeaves a before after
  pub agree : Agree after tells
  pub cause : SendToldCause token told tells after.entries a
