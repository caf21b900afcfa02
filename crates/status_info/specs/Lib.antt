pub mod Bodies
pub mod Causes
pub mod Failing
