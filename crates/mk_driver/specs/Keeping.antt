-- What the driver's lists keep.
use Rattle.std.specs.Prelude.{ℕ, ◌<◌, ◌≤◌, List, [], ◌∷◌, map, length, Option, Some, None}
use Rattle.mk_lists.specs.Among.{Each}
use Rattle.mk_script.specs.declared.lines.TxnLine.{TxnLine}
use Rattle.mk_script.specs.declared.lines.Round.{Round}
use Rattle.mk_driver.specs.declared.Task.{Task}
use Rattle.mk_driver.specs.declared.Caller.{Caller}
use Rattle.mk_driver.specs.declared.Request.{Request}

-- each number is at most those after it
abbrev pub IsAscending : List ℕ → Type 0
IsAscending [] = Unit {0}
IsAscending (number ∷ numbers) = Each (λ other. number ≤ other) numbers × IsAscending numbers

-- each number is below those after it
abbrev pub IsRising : List ℕ → Type 0
IsRising [] = Unit {0}
IsRising (number ∷ numbers) = Each (λ other. number < other) numbers × IsRising numbers

-- the numbers of these clients
abbrev pub numbers_of : List Caller → List ℕ
numbers_of callers = map (λ caller. caller.number) callers

-- the task, where there is one
abbrev pub listed : Option Task → List Task
listed (Some task) = task ∷ []
listed None = []

-- a transaction has at most 16 items
abbrev pub HasFew : TxnLine → Type 0
HasFew line = length line.items ≤ 16

-- so has each of a round
abbrev pub HaveFew : Round → Type 0
HaveFew round = Each HasFew round.txns

-- clients whose lines are these
abbrev pub with_lines : List (List Request) → List Caller → List Caller
with_lines [] callers = callers
with_lines (lines ∷ lists) [] = []
with_lines (lines ∷ lists) (caller ∷ callers) = record caller { lines = lines } ∷ with_lines lists callers
