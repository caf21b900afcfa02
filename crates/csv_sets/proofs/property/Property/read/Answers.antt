use Rattle.std.proofs.Common.{◌∙◌, sym}
use Rattle.csv_sets.proofs.PropertyLaws.{file_named}
use Rattle.csv_sets.proofs.property.Property.read.Goals as goal

pub returns-in_default : goal.returns-in_default
returns-in_default c = c.file_named.ensures ∙ sym (file_named c.args.name.now c.in_default.not-text c.in_default.not-text-2)
