-- Snapshots of bases.
pub mod Snapshots
