pub mod WholeScript
