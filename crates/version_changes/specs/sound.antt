-- What tables owe in order to stand for a state of a hub.
pub mod Behind
