-- What is kept of the epoch machine stands for a state that such lines lead to.
pub mod Reached
