-- How the attempts of a run ended, and whether a run could have happened.
pub mod Firsts
pub mod Attempts
pub mod Lines
pub mod Counting
pub mod News
pub mod Judging
pub mod Walking
