mod Turned
mod WholeScript
