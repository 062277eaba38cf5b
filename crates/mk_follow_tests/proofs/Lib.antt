-- Tests of the follower.
pub mod Fitting
