-- A link, as contracts see it.
use Rattle.std.specs.Prelude.{ℕ, List}
use Rattle.mk_words.specs.declared.Msg.{Msg}

-- the messages sent, in order, and for how many more there is room
pub record LinkView : Type 0 where
  pub messages : List Msg
  pub spare : ℕ
