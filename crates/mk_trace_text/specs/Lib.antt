-- What traces say, and the trace of a run.
pub mod Begun
pub mod Traces
pub mod States
pub mod Grammar
