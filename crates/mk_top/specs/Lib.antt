-- What the call of the program does.
pub mod Forms
pub mod Asked
pub mod Runs
pub mod Ends
