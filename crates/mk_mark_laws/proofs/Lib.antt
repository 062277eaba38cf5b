pub mod MarkStamps
pub mod Late
pub mod Closed
pub mod Counted
