-- What crates above cite of the crates below this one, which they then needn't list.
pub use Rattle.script_runs.specs.Below.Answers
pub use Rattle.script_runs.specs.Below.Catching
pub use Rattle.script_runs.specs.Below.Missed
pub use Rattle.script_runs.specs.Below.CascadeAnswers
pub use Rattle.script_runs.specs.Below.ConsumerAnswers
pub use Rattle.script_runs.specs.Below.ExportAnswers
pub use Rattle.script_runs.specs.Below.FollowAnswers
pub use Rattle.script_runs.specs.Below.Lines
pub use Rattle.script_runs.specs.Below.OutboxAnswers
pub use Rattle.script_runs.specs.Below.Outside
pub use Rattle.script_runs.specs.Below.Runs
pub use Rattle.script_runs.specs.Below.Answer
pub use Rattle.script_runs.specs.Below.End
