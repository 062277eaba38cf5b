-- The epoch machine, lowest first.
pub mod Changes
pub mod Words
pub mod Standing
