mod Answering
mod Leading
mod Listing
mod Ordering
mod Outcomes
mod Serving
