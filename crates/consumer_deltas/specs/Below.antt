-- What crates above cite of the crates below this one, which they then needn't list.
pub use Rattle.consumer_sync.specs.Faulted
