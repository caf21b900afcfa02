-- What a folder in memory holds.
use Rattle.std.specs.Prelude.{List}
use Rattle.outside_ports.specs.Calls.{CallCount}
use Rattle.outside_ports.specs.Files.{Stored}

-- its files, and the calls that it has met
pub record HeldFiles : Type 0 where
  pub files : List Stored
  pub calls : CallCount
