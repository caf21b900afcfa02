mod Ends
mod FeedEnds
mod JobLists
mod Kept
