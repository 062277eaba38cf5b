-- Marks of clients, and the outcomes that they leave to be kept.
pub mod SettledAttempts
pub mod Runs
pub mod Places
