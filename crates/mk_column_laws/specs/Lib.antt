-- One column is safe: its events over all rounds, what is remembered of them, and the laws.
pub mod Moments
pub mod Messages
pub mod Moves
pub mod Facts
pub mod KeyActs
pub mod Laws
pub mod ActLaws
pub mod Reading
pub mod Items
pub mod Identity
pub mod FirstEpoch
