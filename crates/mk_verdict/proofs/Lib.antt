pub mod SameFacts
pub mod FirstFacts
pub mod Rounds
pub mod Exact
