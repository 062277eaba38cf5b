-- Counts of faults and of calls, which end at 2^64 - 1.
use Rattle.std.specs.Prelude.{ℕ, ◌+◌, ◌-◌, ◌^◌, ◌≤◌, min, Option, None, Some}

-- the last value of a count
abbrev pub last_count : ℕ
last_count = 2 ^ 64 - 1

-- one more, or the last value
abbrev pub one_more : ℕ → ℕ
one_more count = min (count + 1) last_count

-- the same, where the count is known
abbrev pub one_more_told : Option ℕ → Option ℕ
one_more_told None = None
one_more_told (Some count) = Some (one_more count)

-- the count rose; one that stands at its last value counts as risen
abbrev pub HasRisen : ℕ → ℕ → Type 0
HasRisen old new = one_more old ≤ new
