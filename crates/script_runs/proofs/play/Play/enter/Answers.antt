use Rattle.std.proofs.Common.{◌≡◌, Some, string_bytes, ◌∙◌}
use Rattle.hub_commands.specs.Outside.{faults_between, faults_of, outside_of}
use Rattle.script_runs.proofs.Refusals.{enters, enters_none, ok_any, refusal_rose, refusal_stood}
use Rattle.script_runs.proofs.play.Play.enter.Goals as goal

pub returns-in-Ok-clause-stood : goal.returns-in-Ok-clause-stood
returns-in-Ok-clause-stood g c = ok_any c.or_stop.result (c.in-Ok.ensures.reads (faults_of 0 0)).1

pub returns-in-Err-clause-stood : goal.returns-in-Err-clause-stood
returns-in-Err-clause-stood g c = refusal_stood (outside_of (g.F.Folder.files c.args.folder.now) (Some c.clock_at-clock.result) (faults_between g.F.Folder.faults c.args.folder.now c.write_of.new.folder) (faults_of 0 0)) c.args.task.now c.in-Err.end (c.in-Err.ensures.reads (faults_of 0 0)) (λ text s. string_bytes s ≡ text) c.end_lines.result c.end_lines.ensures

pub returns-in-Err-clause-failed : goal.returns-in-Err-clause-failed
returns-in-Err-clause-failed g c = refusal_rose (outside_of (g.F.Folder.files c.args.folder.now) (Some c.clock_at-clock.result) (faults_between g.F.Folder.faults c.args.folder.now c.write_of.new.folder) (faults_of 0 0)) c.args.task.now c.in-Err.end (c.in-Err.ensures.reads (faults_of 0 0)) (λ text s. string_bytes s ≡ text) c.end_lines.result c.end_lines.ensures

pub returns-in-Ok-clause-step : goal.returns-in-Ok-clause-step
returns-in-Ok-clause-step g c =
    let at : c.clock_at-clock.result ≡ c.args.self.now.link.clock = c.clock_at-clock.ensures ∙ c.clock.ensures in
    enters string_bytes (g.F.Folder.files c.args.folder.now) c.clock_at-clock.result c.args.task.now c.args.self.now c.enter_write.new.self c.in-Ok.write c.enter_write.result c.or_stop.result at (c.in-Ok.ensures.reads (faults_of 0 0)).0
    c.enter_write.ensures c.or_stop.ensures.text

pub returns-in-Err-clause-step : goal.returns-in-Err-clause-step
returns-in-Err-clause-step g c =
    let at : c.clock_at-clock.result ≡ c.args.self.now.link.clock = c.clock_at-clock.ensures ∙ c.clock.ensures in
    enters_none string_bytes (g.F.Folder.files c.args.folder.now) c.clock_at-clock.result (faults_between g.F.Folder.faults c.args.folder.now c.write_of.new.folder) (faults_of 0 0) c.args.task.now c.args.self.now c.in-Err.end
    c.end_lines.result at (c.in-Err.ensures.reads (faults_of 0 0)) c.end_lines.ensures
