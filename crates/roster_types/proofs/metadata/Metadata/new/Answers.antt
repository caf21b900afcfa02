use Rattle.std.proofs.Common.{subst, sym}
use Rattle.roster_types.specs.Records.{IsMetadata}
use Rattle.roster_types.proofs.MetadataLaws.{IsMetadata-nil}
use Rattle.roster_types.proofs.metadata.Metadata.new.Goals as goal

pub invariant_of-result : goal.invariant_of-result
invariant_of-result c = subst IsMetadata (sym c.new.ensures) IsMetadata-nil
