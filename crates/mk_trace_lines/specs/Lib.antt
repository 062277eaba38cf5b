-- The lines of traces: their words, what they hold, how they are written, and what is read of them.
pub mod LineWords
pub mod TraceLines
pub mod ActShapes
pub mod Replies
pub mod Seen
