use Rattle.grant_files.proofs.GrantSteps.{other_file, text_file}
use Rattle.grant_files.proofs.file.read_grants.Goals as goal

pub returns-in-Ok : goal.returns-in-Ok
returns-in-Ok c = text_file c.args.bytes.now c.in-Ok.text.now c.grants_in.result c.in-Ok.ensures.cases.0 c.in-Ok.ensures.cases.1 c.grants_in.ensures

pub returns-in-Err : goal.returns-in-Err
returns-in-Err c = other_file c.args.bytes.now c.in-Err.ensures.cases.0
