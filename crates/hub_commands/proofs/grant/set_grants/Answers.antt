use Rattle.hub_commands.proofs.Granting.{grants_not_published, grants_published}
use Rattle.hub_commands.specs.Outside.{faults_of}
use Rattle.hub_commands.proofs.grant.set_grants.Goals as goal

pub returns-in-Ok-clause-told : goal.returns-in-Ok-clause-told
returns-in-Ok-clause-told g c = λ after standing.
    let told = c.in-Ok.ensures.told after standing in
    (told.0, told.1, told.2, grants_published _ _ (faults_of _ _) (faults_of _ _) c.args.file.now c.in_ok-list.list c.moment_of.result c.in_ok-list.ensures.grants.0 c.in_ok-list.ensures.grants.1 c.moment_of.ensures c.in-Ok.published told.0 after told.3 c.in-Ok.ensures.cause)

pub returns-in-Err-clause-told : goal.returns-in-Err-clause-told
returns-in-Err-clause-told g c = λ after standing.
    let told = c.in-Err.ensures.told after standing in
    (told.0, told.1, told.2, rw c.end_of_error.ensures (grants_not_published _ _ (faults_of _ _) (faults_of _ _) c.args.file.now c.in_ok-list.list c.moment_of.result c.in_ok-list.ensures.grants.0 c.in_ok-list.ensures.grants.1 c.moment_of.ensures c.in-Err.error told.0 after told.3 c.in-Err.ensures.cause))
