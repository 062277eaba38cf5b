-- The named step is enabled.
pub mod Enabled
