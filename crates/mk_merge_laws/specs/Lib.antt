-- What a base is composed of, what a merge adds to one, and what its commits leave at keys.
pub mod Composition
pub mod Adding
pub mod Lefts
pub mod Marks
