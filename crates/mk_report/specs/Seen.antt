-- What an entry of a table by borrowed names stands for.
use Rattle.std.specs.Prelude.{ℕ, List}
use Rattle.std.specs.Borrow.{Bor}

abbrev pub seen_entry : Bor (List ℕ) × ℕ → List ℕ × ℕ
seen_entry entry = (entry.0.now, entry.1)
