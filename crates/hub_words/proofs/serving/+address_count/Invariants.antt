use Rattle.std.proofs.Common.{length}
use Rattle.hub_words.proofs.serving.+address_count.Given as goal

abbrev pub decreases-address_count : goal.decreases-address_count
decreases-address_count l = length l.words.now
