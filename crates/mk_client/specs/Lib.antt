-- What an attempt reads, and what it then writes.
pub mod Wanted
pub mod Computed
pub mod DistinctKeys
