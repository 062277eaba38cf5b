-- Calls of the epoch machine, and the states that they lead to.
pub mod Leading
