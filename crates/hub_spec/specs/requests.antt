-- What the texts of a request want, and what a consumer's requests are told.
pub mod DeltaRequests
pub mod PageRequests
pub mod Requests
