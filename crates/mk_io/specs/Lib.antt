-- What a call on the outside does, and what the forms in memory do.
pub mod Faults
pub mod Wholes
pub mod Calls
pub mod Memory
