-- Delivering messages by their fates, and taking those of the two lists.
use Rattle.std.specs.Prelude.{ℕ, zero, suc, ◌+◌, ◌-◌, List, [], ◌∷◌, ◌++◌, length, Option, Some, None}
use Rattle.mk_txn.specs.declared.TxnId.{TxnId}
use Rattle.mk_txn.specs.declared.Outcome.{Outcome}
use Rattle.mk_txn.specs.declared.Outcome.TheVariants.{Commit, Abort}
use Rattle.mk_words.specs.declared.Msg.{Msg}
use Rattle.mk_words.specs.Links.{message}
use Rattle.mk_script.specs.declared.lines.Fate.{Fate}
use Rattle.mk_script.specs.declared.lines.Fate.TheVariants.{Deliver, Lose, Twice, Late, NextRound}
use Rattle.mk_faults.specs.Fates.{RuleLines, fate_at}
use Rattle.mk_words.specs.declared.Step.TheVariants.{Take as TakeStep}
use Rattle.mk_model.specs.ColumnState.{ColumnState, AttemptState, attempt_of, numbers_from}
use Rattle.mk_driver.specs.declared.Task.{Task}
use Rattle.mk_driver.specs.declared.Task.TheVariants.{Deliver as DeliverTask, DeliverSince, Take as TakeTask, Notice, Late as LateTask}
use Rattle.mk_driver.specs.declared.DriverState.{DriverState}
use Rattle.mk_driver.specs.declared.Request.{Request}
use Rattle.mk_driver.specs.declared.Caller.{Caller}
use Rattle.mk_driver.specs.Agenda.{Worked, change_caller, trial_in, end_trial, with_held, with_late}
use Rattle.mk_driver.specs.Agenda.Worked.{Quiet, Names}

-- after a step of this attempt: whether its own coordinator has learned an abort, and the messages that the step sends
abbrev pub follow_ups : ColumnState → TxnId → List Task
follow_ups column id = Notice id ∷ (DeliverSince (length column.link) ∷ [])

-- what follows a take goes by the message
abbrev pub taking_by : ColumnState → ℕ → Option Msg → List Task → DriverState → Worked
taking_by column number (Some msg) after driver = Names (TakeStep number) (follow_ups column msg.id ++ after) driver
taking_by column number None after driver = Names (TakeStep number) after driver

-- a message is taken, with its key calls, and its answer is delivered
abbrev pub taking : ColumnState → ℕ → List Task → DriverState → Worked
taking column number after driver = taking_by column number (message column.link number) after driver

-- one message of a batch by its fate; the batch ends before the number end
abbrev pub by_fate : ColumnState → ℕ → ℕ → Fate → (DriverState → Worked) → DriverState → Worked
by_fate column end number Deliver next driver = taking column number (DeliverTask (number + 1) end ∷ []) driver
by_fate column end number Twice next driver = taking column number (TakeTask number ∷ (DeliverTask (number + 1) end ∷ [])) driver
by_fate column end number Lose next driver = next driver
by_fate column end number Late next driver = next (with_late number driver)
by_fate column end number NextRound next driver = next (with_held number driver)

-- these messages by their fates
abbrev pub delivering : RuleLines → ColumnState → ℕ → List ℕ → DriverState → Worked
delivering rules column end [] driver = Quiet driver
delivering rules column end (number ∷ numbers) driver =
    by_fate column end number (fate_at rules column.link number) (delivering rules column end numbers) driver

-- a batch is delivered in order of number
abbrev pub delivering_from : RuleLines → ColumnState → ℕ → ℕ → DriverState → Worked
delivering_from rules column first end driver = delivering rules column end (numbers_from first (end - first)) driver

-- the late messages, one after the other
abbrev pub taking_late : ColumnState → List ℕ → DriverState → Worked
taking_late column [] driver = Quiet driver
taking_late column (number ∷ numbers) driver = taking column number (LateTask ∷ []) (record driver { late = numbers })

-- these retries with one more, where tries are left
abbrev pub with_tries : ℕ → Request → List Request → List Request
with_tries zero request retries = retries
with_tries (suc tries) request retries = retries ++ record request { tries = tries } ∷ []

-- these retries once an attempt that was asked for this learned an abort
abbrev pub retries_after : Option Request → List Request → List Request
retries_after None retries = retries
retries_after (Some request) retries = with_tries request.tries request retries

-- the client's attempt of this place is done
abbrev pub done_with : ℕ → Caller → Caller
done_with seq caller = record caller { trials = end_trial seq caller.trials }

-- what the client's attempt of this place was asked for joins the retries while it has tries left
abbrev pub tried_again : ℕ → Caller → Caller
tried_again seq caller =
    record caller { trials = end_trial seq caller.trials; retries = retries_after (trial_in caller.trials seq) caller.retries }

-- what a learned outcome does: a transaction whose own coordinator learned Abort is tried again
abbrev pub noticed : TxnId → Option Outcome → DriverState → DriverState
noticed id (Some (Abort cause)) driver = change_caller id.client (tried_again id.seq) driver
noticed id (Some Commit) driver = change_caller id.client (done_with id.seq) driver
noticed id None driver = driver

-- what the own coordinator of this attempt has learned
abbrev pub learned_by : Option AttemptState → Option Outcome
learned_by (Some attempt) = attempt.coord.learned
learned_by None = None

-- what the attempt's own coordinator has learned
abbrev pub own_learned : ColumnState → TxnId → Option Outcome
own_learned column id = learned_by (attempt_of column id)

-- the driver looks whether the attempt's own coordinator has learned
abbrev pub noticing : ColumnState → TxnId → DriverState → Worked
noticing column id driver = Quiet (noticed id (own_learned column id) driver)
