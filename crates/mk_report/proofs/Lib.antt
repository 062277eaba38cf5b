pub mod NameTables
pub mod NoFloats
pub mod DistinctCommits
pub mod SameCommits
pub mod WholeCommits
