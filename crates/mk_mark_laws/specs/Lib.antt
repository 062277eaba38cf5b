-- The law of the marks of the feed.
pub mod Honest
