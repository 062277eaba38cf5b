mod RowLaws
mod StandingLaws
mod AnswerLaws
mod KeptLaws
mod KeepLaws
