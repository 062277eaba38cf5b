-- The one copy, and what it explains.
pub mod Explained
