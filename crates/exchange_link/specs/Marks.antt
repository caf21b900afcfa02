-- What a copy and what a link tells agree on, the marks of writes with it.
use Rattle.keeper_memory.specs.copy.Copies.{Copy}
pub use Rattle.hub_spec.specs.marks.Agreement.{MarksAgree}
use Rattle.exchange_link.specs.Agreement.{StageAgrees}
use Rattle.exchange_link.specs.Exchanges.{LinkState}

-- the entries of the copy agree with the marks that the hub keeps and with the requests that were sent
abbrev pub MarksTold : Copy → LinkState → Type 0
MarksTold c told = MarksAgree c.entries c.last_number told.hub told.sent

-- no number is used twice, the stage is what it says, and so are the entries
pub record Agree (c : Copy) (told : LinkState) : Type 0 where
  pub stage : StageAgrees c told
  pub marks : MarksTold c told
