mod OneRun
mod BrokenRuns
mod RunTrials
pub mod CoveredNotCounted
pub mod ForgottenTeachesNothing
pub mod FailingWord
pub mod SupersededEpochTeaches
pub mod MovedTeachesTakeover
pub mod TaughtCoordinator
pub mod AbortKeepsFirstCause
pub mod AbsentValues
pub mod LateVotes
pub mod NobodyServes
pub mod UnclearTakeover
pub mod WipedAndReadmitted
