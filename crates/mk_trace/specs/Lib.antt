-- Traces: the text of a run, and what is read of a text.
pub mod Pieces
pub mod Seen
pub mod Writes
pub mod Answers
