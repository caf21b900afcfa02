-- How a keeper's fault ends the entering of a write.
use Rattle.exchange_link.specs.declared.send_answer.EnterError.{EnterError}
use Rattle.exchange_link.specs.declared.send_answer.EnterError.TheVariants as error
use Rattle.roster_base.specs.declared.keeper.KeeperError.{KeeperError}
use Rattle.roster_base.specs.declared.keeper.KeeperError.TheVariants as fault

-- why a write isn't entered where the keeper couldn't do its work
abbrev pub entry_error : KeeperError → EnterError
entry_error fault.Failed = error.KeeperFault
entry_error fault.NoMemory = error.NoMemory
