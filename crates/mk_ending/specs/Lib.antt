-- How a call of the program ends.
pub mod Endings
