use Rattle.std.proofs.Common.{rules}
use Rattle.roster_types.proofs.MetadataLaws.{IsMetadata-push}
use Rattle.roster_types.proofs.metadata.Metadata.push.Goals as goal

pub invariant_of-self : goal.invariant_of-self
invariant_of-self c =
    IsMetadata-push _ _ c.args.entry c.push.result c.self.invariant (search rules) c.requires.plain c.as_str.ensures.good (search rules) (search rules)
