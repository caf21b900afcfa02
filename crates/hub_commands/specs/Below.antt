-- What crates above cite of the crates below this one, which they then needn't list.
pub use Rattle.hub_follow.specs.Catching
pub use Rattle.hub_follow.specs.declared.answer.Missed
pub use Rattle.consumer_commands.specs.Held
pub use Rattle.consumer_commands.specs.SendLines
pub use Rattle.consumer_commands.specs.Sends
pub use Rattle.consumer_commands.specs.SyncLines
pub use Rattle.consumer_commands.specs.Syncs
pub use Rattle.consumer_commands.specs.Below.DeltaAnswer
pub use Rattle.consumer_commands.specs.Deltas
pub use Rattle.consumer_commands.specs.Outbox
