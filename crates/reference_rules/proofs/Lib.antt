pub mod CycleLemmas
mod FieldSteps
pub mod ListSteps
pub mod KeyOrder
pub mod ParentChains
mod PassedLemmas
pub mod Pigeonhole
pub mod Rest
pub mod Sound
