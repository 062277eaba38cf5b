-- What the words of traces answer.
pub mod VerdictTexts
pub mod Asking
pub mod Seen
pub mod PastTexts
pub mod Checked
pub mod Streams
