pub mod WordRanges
pub mod DrawSteps
pub mod Pigeons
pub mod NumberNames
pub mod KeyNumbers
pub mod ClientLines
pub mod WholeScripts
pub mod QuietScripts
