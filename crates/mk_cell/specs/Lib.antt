-- The cell of a key at a replica, lowest first.
pub mod Searching
