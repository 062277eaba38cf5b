pub mod Tried
pub mod TwoBases
pub mod ClashingCommits
pub mod WholeLife
