use Rattle.std.proofs.Common.{length}
use Rattle.grant_scopes.proofs.words.+bits_among.Given as goal

abbrev pub decreases-bits_among : goal.decreases-bits_among
decreases-bits_among l = length l.scopes.now
