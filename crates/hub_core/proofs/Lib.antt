pub mod HubLemmas
pub mod StepLemmas
