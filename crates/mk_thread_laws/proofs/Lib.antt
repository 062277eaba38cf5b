pub mod IndexSets
pub mod Sending
pub mod Sharing
