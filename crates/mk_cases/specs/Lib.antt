-- Runs that show what the laws of safety are about.
pub mod Writing
pub mod TwoBases
pub mod ClashingCommits
pub mod WholeLife
