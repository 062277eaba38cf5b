pub mod WordStream
pub mod Drawn
pub mod Generated
