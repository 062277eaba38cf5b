pub mod ProgressLaws
