-- The clients of a column have rising numbers, and keep them where more is asked of them.
use Rattle.std.proofs.Common.{◌≡◌, refl, ap, map, ◌<◌, ◌≤◌, ℕ, ◌+◌, Bool, true, false, List, [], ◌∷◌, arith, ◌==◌, if◌then◌else◌}
use Rattle.std.specs.Prelude.{None}
use Rattle.mk_lists.specs.Among.{Each, Each-weaker}
use Rattle.mk_script.specs.declared.lines.ClientLine.{ClientLine}
use Rattle.mk_driver.specs.declared.Caller.{Caller}
use Rattle.mk_driver.specs.declared.Submission.{Submission}
use Rattle.mk_driver.specs.Keeping.{IsRising, numbers_of}
use Rattle.mk_driver.specs.Driven.{callers_from, asked_more}

from : (column number : ℕ) (lines : List ClientLine) →
    Each (λ other. number ≤ other) (numbers_of (callers_from column number lines)) × IsRising (numbers_of (callers_from column number lines))
from column number [] = (tt, tt)
from column number (line ∷ lines) = by (line.column == column) (from column (number + 1) lines)
  where
    by : (b : Bool) → Each (λ other. number + 1 ≤ other) (numbers_of (callers_from column (number + 1) lines)) × IsRising (numbers_of (callers_from column (number + 1) lines)) →
        Each (λ other. number ≤ other) (numbers_of (if b then record { number = number; home = line.home; under_way = None; retries = []; lines = []; trials = [] } ∷ callers_from column (number + 1) lines else callers_from column (number + 1) lines))
        × IsRising (numbers_of (if b then record { number = number; home = line.home; under_way = None; retries = []; lines = []; trials = [] } ∷ callers_from column (number + 1) lines else callers_from column (number + 1) lines))
    by true k = (
      (omega arith, Each-weaker (λ other. number + 1 ≤ other) (λ other. number ≤ other) (λ other h. omega (arith, h)) (numbers_of (callers_from column (number + 1) lines)) k.0),
      (Each-weaker (λ other. number + 1 ≤ other) (λ other. number < other) (λ other h. omega (arith, h)) (numbers_of (callers_from column (number + 1) lines)) k.0, k.1),
    )
    by false k = (Each-weaker (λ other. number + 1 ≤ other) (λ other. number ≤ other) (λ other h. omega (arith, h)) (numbers_of (callers_from column (number + 1) lines)) k.0, k.1)

pub callers_rise : (column number : ℕ) (lines : List ClientLine) → IsRising (numbers_of (callers_from column number lines))
callers_rise column number lines = let k = from column number lines in k.1

-- the clients keep their numbers
pub asked_numbers : (submissions : List Submission) (xs : List Caller) → numbers_of (map (asked_more submissions) xs) ≡ numbers_of xs
asked_numbers submissions [] = refl
asked_numbers submissions (x ∷ xs) = ap (λ ns. x.number ∷ ns) (asked_numbers submissions xs)
