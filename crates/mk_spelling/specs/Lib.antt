-- How lines, words, numbers and names are spelled in bytes.
pub mod Words
pub mod Fields
pub mod Lines
pub mod Pieces
