-- Bases of epochs.
pub mod Keepings
pub mod Standing
pub mod Joining
pub mod Handing
pub mod Ascending
pub mod Spanning
pub mod Clashing
