-- Counts of attempts, and tests of rounds.
pub mod AttemptCounts
pub mod RoundTests
