-- A follower.
pub mod Rules
pub mod Rows
pub mod Orders
pub mod Following
pub mod Commits
pub mod Lanes
pub mod Kept
