use Rattle.grant_files.proofs.KnownLaws.{noted}
use Rattle.grant_files.proofs.known.note.Goals as goal

pub returns-clause-noted : goal.returns-clause-noted
returns-clause-noted c = noted c.args.texts.now c.insert.new.self c.in_ok-from_str.field-0 c.args.text.now c.in_ok-from_str.ensures.ok c.in_ok-insert.ensures.updates
