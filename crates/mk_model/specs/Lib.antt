-- What columns and epochs do, as definitions, lowest first.
pub mod ColumnState
pub mod Replicas
pub mod Answers
pub mod Learnings
pub mod Conditions
pub mod Steps
pub mod Logs
pub mod Sending
pub mod Deciding
pub mod EpochState
pub mod GlobalAnswers
pub mod GlobalSteps
pub mod Force
pub mod OneCopy
pub mod Explained
