pub mod AnyRounds
pub mod RoundLaws
pub mod CountLaws
