-- Two lists gone through together, and the first of what is found at numbers.
use Rattle.std.specs.Prelude.{ℕ, ◌+◌, List, [], ◌∷◌, Option, None}
use Rattle.std.specs.Option.{option_or}

-- each member of the first list after that of the second at its place
abbrev pub each_done : {X Y : Type 0} → (X → Y → X) → List X → List Y → List X
each_done f [] ys = []
each_done f (x ∷ xs) [] = x ∷ xs
each_done f (x ∷ xs) (y ∷ ys) = f x y ∷ each_done f xs ys

-- the first that is found at a place of both lists, the first of which has this number
abbrev pub first_in : {X Y Z : Type 0} → (ℕ → X → Y → Option Z) → ℕ → List X → List Y → Option Z
first_in g k [] ys = None
first_in g k (x ∷ xs) [] = None
first_in g k (x ∷ xs) (y ∷ ys) = option_or (g k x y) (first_in g (k + 1) xs ys)
