-- What comes of a task, and how a driver changes: its lists of messages, its clients and their attempts.
use Rattle.std.specs.Prelude.{ℕ, ◌+◌, ◌-◌, Bool, ◌==◌, nat_lt, List, [], ◌∷◌, ◌++◌, length, replicate, slice_get, slice_set, Option, Some, None, find, if◌then◌else◌}
use Rattle.mk_lists.specs.Changed.{change}
use Rattle.mk_txn.specs.declared.TxnId.{TxnId}
use Rattle.mk_words.specs.declared.Step.{Step}
use Rattle.mk_driver.specs.declared.Task.{Task}
use Rattle.mk_driver.specs.declared.Part.{Part}
use Rattle.mk_driver.specs.declared.Request.{Request}
use Rattle.mk_driver.specs.declared.Caller.{Caller}
use Rattle.mk_driver.specs.declared.DriverState.{DriverState}

-- what comes of one task: nothing, or a step with the tasks that follow it
pub data Worked : Type 0 where
  Quiet : (driver : DriverState) → Worked
  Names : (step : Step) (after : List Task) (driver : DriverState) → Worked

-- the client has this number
abbrev pub is_caller : ℕ → Caller → Bool
is_caller number caller = caller.number == number

-- the client of this number is changed
abbrev pub change_caller : ℕ → (Caller → Caller) → DriverState → DriverState
change_caller number f driver = record driver { callers = change (is_caller number) f driver.callers }

-- what was asked for, where there is a place for it
abbrev pub asked : Option (Option Request) → Option Request
asked (Some trial) = trial
asked None = None

-- what the client's attempt of this place was asked for, while its own coordinator is not known to have learned
abbrev pub trial_in : List (Option Request) → ℕ → Option Request
trial_in trials seq = asked (slice_get trials seq)

-- of the client that was found
abbrev pub trial_by : ℕ → Option Caller → Option Request
trial_by seq (Some caller) = trial_in caller.trials seq
trial_by seq None = None

-- what the attempt was asked for
abbrev pub trial_of : TxnId → DriverState → Option Request
trial_of id driver = trial_by id.seq (find (is_caller id.client) driver.callers)

-- the trials with a place for this one
abbrev pub with_place : ℕ → List (Option Request) → List (Option Request)
with_place seq trials = trials ++ replicate (seq + 1 - length trials) None

-- the trials with one at this place
abbrev pub put_trial : ℕ → Option Request → List (Option Request) → List (Option Request)
put_trial seq trial trials = slice_set (with_place seq trials) seq trial

-- the trials with none at this place
abbrev pub end_trial : ℕ → List (Option Request) → List (Option Request)
end_trial seq trials = slice_set trials seq None

-- a number put into an ascending list
abbrev pub in_order : ℕ → List ℕ → List ℕ
in_order number [] = number ∷ []
in_order number (other ∷ others) = if nat_lt number other then number ∷ (other ∷ others) else other ∷ in_order number others

-- a message is held for the next round
abbrev pub with_held : ℕ → DriverState → DriverState
with_held number driver = record driver { held = in_order number driver.held }

-- a late message goes to part 5, and in part 6, after which no part is left, to the next round
abbrev pub with_late_by : List Part → ℕ → DriverState → DriverState
with_late_by [] number driver = with_held number driver
with_late_by (part ∷ parts) number driver = record driver { late = in_order number driver.late }

-- a message comes late
abbrev pub with_late : ℕ → DriverState → DriverState
with_late number driver = with_late_by driver.parts number driver
