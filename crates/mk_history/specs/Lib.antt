-- Runs: their shape, when they could have happened, what was learned in them, and what holds of them.
pub mod Histories
pub mod Shape
pub mod Matching
pub mod Wholes
pub mod Legality
pub mod Learning
pub mod Leaving
pub mod Naming
pub mod Teaching
pub mod Safety
