-- How a keeper's error becomes a hub's.
use Rattle.roster_base.specs.declared.keeper.KeeperError.{KeeperError}
use Rattle.roster_base.specs.declared.keeper.KeeperError.TheVariants as keeper
use Rattle.hub_core.specs.declared.hub_error.HubError.{HubError}
use Rattle.hub_core.specs.declared.hub_error.HubError.TheVariants as error

abbrev pub error_of_keeper : KeeperError → HubError
error_of_keeper keeper.Failed = error.Keeper
error_of_keeper keeper.NoMemory = error.NoMemory
