use Rattle.consumer_commands.proofs.sending.enter_write.Goals as goal

pub returns-clause-entered : goal.returns-clause-entered
returns-clause-entered g c = record { told = c.enter.ensures.told; agree = c.enter.ensures.agree; cause = c.enter.ensures.cause }
