pub mod Copies
pub mod Frames
pub mod Parts
mod MarkRows
mod MovedRows
mod OneRun
mod EpochRows
