-- How far a test passes, one number after the other: a client's mark is how far its attempts are settled.
use Rattle.std.specs.Prelude.{ℕ, zero, suc, Bool, true, ◌&&◌, if◌then◌else◌}

-- each number from 1 to this one passes
abbrev pub all_upto : (ℕ → Bool) → ℕ → Bool
all_upto p zero = true
all_upto p (suc m) = p (suc m) && all_upto p m

-- the greatest number, of those up to `most`, up to which all pass
abbrev pub greatest_upto : (ℕ → Bool) → ℕ → ℕ
greatest_upto p zero = 0
greatest_upto p (suc most) = if all_upto p (suc most) then suc most else greatest_upto p most
