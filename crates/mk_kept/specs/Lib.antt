-- Runs that are kept.
pub mod Heads
