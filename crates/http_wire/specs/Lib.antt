pub mod Answers
pub mod Texts
pub mod Heads
pub mod Lasting
pub mod Reading
pub mod Replies
pub mod Seen
pub mod Sending
