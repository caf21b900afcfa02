-- What a hub reads of a marked write and answers to it, and how a consumer's entries agree with the marks that the hub
-- keeps.
pub mod Agreement
pub mod Alone
pub mod Answering
pub mod Marked
pub mod Sending
