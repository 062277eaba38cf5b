pub mod FeedRows
