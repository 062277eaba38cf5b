-- Lists without their first.
use Rattle.std.specs.Prelude.{ℕ, List, [], ◌∷◌}
use Rattle.mk_driver.specs.declared.Part.{Part}

-- the parts without the first
abbrev pub after_part : List Part → List Part
after_part [] = []
after_part (part ∷ parts) = parts

-- the numbers without the first
abbrev pub after_number : List ℕ → List ℕ
after_number [] = []
after_number (number ∷ numbers) = numbers
