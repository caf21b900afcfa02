-- Lemmas of crates below this one that crates above cite, which then needn't list those.
pub use Rattle.hub_commands.proofs.Asking
pub use Rattle.hub_commands.proofs.Below.DeltaDoneLemmas
pub use Rattle.hub_commands.proofs.Cascading
pub use Rattle.hub_commands.proofs.Following
pub use Rattle.hub_commands.proofs.Granting
pub use Rattle.hub_commands.proofs.Leading
pub use Rattle.hub_commands.proofs.Publishing
pub use Rattle.hub_commands.proofs.Telling
