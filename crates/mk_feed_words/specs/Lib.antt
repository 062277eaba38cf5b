-- The words of the feed.
pub mod Feed
pub mod MarkStamps
pub mod Shown
