-- The status of a server's ending.
use Rattle.std.specs.Prelude.{ℕ}
use Rattle.hub_server.specs.declared.ending.Ending.{Ending}
use Rattle.hub_server.specs.declared.ending.Ending.TheVariants as ending
use Rattle.hub_words.specs.Statuses.{acceptor_failed_status, done_status, folder_failed_status, hub_failed_status}
use Rattle.hub_words.specs.Statuses.{no_memory_status, refused_status}

abbrev pub status_of : Ending → ℕ
status_of ending.Done = done_status
status_of ending.FolderFailed = folder_failed_status
status_of ending.Refused = refused_status
status_of ending.KeeperFailed = hub_failed_status
status_of ending.NoMemory = no_memory_status
status_of ending.AcceptorFailed = acceptor_failed_status
