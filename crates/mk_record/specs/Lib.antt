-- The record of a replica.
pub mod Entries
