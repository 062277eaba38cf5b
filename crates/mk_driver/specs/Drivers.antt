-- A driver, as contracts see it.
use Rattle.std.specs.Prelude.{ℕ, List, [], ◌∷◌}
use Rattle.mk_driver.specs.declared.DriverState.{DriverState}
use Rattle.mk_driver.specs.declared.RoundLines.{RoundLines}

-- a driver with the size and the number of its column, the rounds that were begun, and the lines of those to come
pub record DriverView : Type 0 where
  pub size : ℕ
  pub column : ℕ
  pub round : ℕ
  pub rounds : List RoundLines
  pub driver : DriverState

-- the rounds without the first
abbrev pub after_lines : List RoundLines → List RoundLines
after_lines [] = []
after_lines (lines ∷ rounds) = rounds
