-- What a whole reading and a whole writing leave, where the bytes are known.
use Rattle.std.specs.Prelude.{◌≡◌, ℕ, ◌<◌, ◌≤◌, List, [], Option, None, Some, length, take, drop, ⊤}
use Rattle.std.specs.Io.KnownBytes.{Appends}

-- all known bytes were taken: these, and none is left
abbrev pub TakesAll : Option (List ℕ) → Option (List ℕ) → List ℕ → Type 0
TakesAll None new bytes = ⊤
TakesAll (Some left) new bytes = (bytes ≡ left) × (new ≡ Some [])

-- of the known bytes just so many were taken
abbrev pub TakesCount : Option (List ℕ) → Option (List ℕ) → ℕ → Type 0
TakesCount None new count = ⊤
TakesCount (Some left) new count = (count ≤ length left) × (new ≡ Some (drop count left))

-- of the known bytes at most so many were taken
abbrev pub TakesAtMost : Option (List ℕ) → Option (List ℕ) → ℕ → Type 0
TakesAtMost old new limit = (count : ℕ) × (count ≤ limit) × TakesCount old new count

-- the known bytes grew by a front of the text, and not by all of it
abbrev pub AppendsPart : Option (List ℕ) → Option (List ℕ) → List ℕ → Type 0
AppendsPart old new text = (count : ℕ) × (count < length text) × Appends old new (take count text)
