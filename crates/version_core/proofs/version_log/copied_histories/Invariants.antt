use Rattle.std.proofs.Common.{◌≡◌, take}
use Rattle.version_core.specs.History.{pasts_of}
use Rattle.version_core.proofs.version_log.copied_histories.Given as goal

abbrev pub invariant-loop-history : goal.invariant-loop-history
invariant-loop-history l = pasts_of l.copies.items ≡ pasts_of (take l.history-index l.histories)
