-- Runs whose global lines are replayed.
pub mod AtLines
