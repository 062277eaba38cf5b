-- The first flaw of a run.
pub mod Sameness
pub mod Flaws
pub mod Exactness
