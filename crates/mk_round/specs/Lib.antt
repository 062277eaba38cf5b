-- Rounds of a script.
pub mod Pasts
pub mod Turning
pub mod Stores
pub mod Begun
