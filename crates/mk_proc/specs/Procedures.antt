-- What a procedure computes from the values that were read so far and its argument.
use Rattle.std.specs.Prelude.{◌≡◌, ℕ, ◌+◌, ◌-◌, ◌^◌, ◌<◌, ◌≤◌, min, max, List, [], ◌∷◌, length, sum, fold, All}
use Rattle.std.specs.Borrow.{Bor}
use Rattle.mk_proc.specs.declared.ProcKind.{ProcKind}
use Rattle.mk_proc.specs.declared.ProcKind.TheVariants.{Add, Sum, Max}

-- a sum stops at the greatest number of 64 bits
abbrev pub stopped : ℕ → ℕ
stopped number = min number (2 ^ 64 - 1)

-- the first of the values, and 0 where there is none
abbrev pub first_value : List ℕ → ℕ
first_value [] = 0
first_value (value ∷ values) = value

-- the greatest of the values and this number
abbrev pub greatest : List ℕ → ℕ → ℕ
greatest values number = fold max number values

-- the value of a procedure, which is its argument where nothing was read
abbrev pub proc_value : ProcKind → List ℕ → ℕ → ℕ
proc_value Add values arg = stopped (first_value values + arg)
proc_value Sum values arg = stopped (sum values + arg)
proc_value Max values arg = greatest values arg

-- what a procedure may be called on: at most 16 values and an argument, each of 64 bits
abbrev pub IsCall : List ℕ → ℕ → Type 0
IsCall values arg = (length values ≤ 16) × All (λ value. value < 2 ^ 64) values × (arg < 2 ^ 64)

-- each such call may be made
abbrev pub CanCompute : (Bor (List ℕ) → ℕ → Type 0) → Type 0
CanCompute pre = (values : Bor (List ℕ)) (arg : ℕ) → IsCall values.now arg → pre values arg

-- each such call answers the value of this kind
abbrev pub Computes : ProcKind → (Bor (List ℕ) → ℕ → ℕ → Type 0) → Type 0
Computes kind post =
    (values : Bor (List ℕ)) (arg answer : ℕ) → IsCall values.now arg → post values arg answer → answer ≡ proc_value kind values.now arg
