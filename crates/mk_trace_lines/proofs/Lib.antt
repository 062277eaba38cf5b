pub mod FoundWords
pub mod Spaced
