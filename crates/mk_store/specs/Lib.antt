-- Scripts that are run.
pub mod Words
pub mod Globals
