-- Lemmas on what a whole reading and a whole writing leave.
pub mod WholeLaws
