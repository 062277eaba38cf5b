pub mod FormLaws
mod FastLaws
