mod FeedWords
mod OptionWords
pub mod Quiet
mod SplitWords
