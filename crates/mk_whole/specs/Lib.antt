-- Rounds that are replayed.
pub mod Pairs
pub mod Turns
pub mod Journals
pub mod Matches
pub mod Matchers
pub mod Logs
pub mod Working
pub mod Standings
