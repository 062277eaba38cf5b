-- What a replica does at its keys for a transaction.
pub mod Kinds
pub mod Progress
