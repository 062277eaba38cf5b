-- Messages, and the list of those that were sent.
pub mod Indexes
pub mod Sendings
