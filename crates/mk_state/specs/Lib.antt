-- Columns, cells and epochs of the whole.
pub mod Cells
pub mod Starting
pub mod Handing
pub mod Beginning
pub mod Standings
pub mod Words
