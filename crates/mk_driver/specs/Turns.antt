-- The one step that the driver's turns name next.
use Rattle.std.specs.Prelude.{ℕ, ◌+◌, List, [], ◌∷◌, ◌++◌, flat_map, length, false, Option, Some, None, if◌then◌else◌}
use Rattle.mk_txn.specs.declared.TxnId.{TxnId}
use Rattle.mk_faults.specs.Fates.{RuleLines}
use Rattle.mk_words.specs.declared.KeyCall.{KeyCall}
use Rattle.mk_model.specs.ColumnState.{Setting, ColumnState, client_of, numbers_from, open_at}
use Rattle.mk_model.specs.Conditions.{wanted}
use Rattle.mk_driver.specs.declared.Next.{Next}
use Rattle.mk_driver.specs.declared.Next.TheVariants.{Step as StepNext, Key as KeyNext, Over}
use Rattle.mk_driver.specs.declared.Task.{Task}
use Rattle.mk_driver.specs.declared.Task.TheVariants.{Deliver, DeliverSince, Take, Notice, Fetch, Reach, Resume, Turns, Takeover, Late, Settle, SettleTakeover}
use Rattle.mk_driver.specs.declared.Part.{Part}
use Rattle.mk_driver.specs.declared.Part.TheVariants.{Resume as ResumePart, Turns as TurnsPart, Takeovers as TakeoversPart, Late as LatePart, Settle as SettlePart}
use Rattle.mk_driver.specs.declared.DriverState.{DriverState}
use Rattle.mk_driver.specs.Agenda.{Worked}
use Rattle.mk_driver.specs.Agenda.Worked.{Quiet, Names}
use Rattle.mk_driver.specs.Delivery.{delivering_from, taking, taking_late, noticing}
use Rattle.mk_driver.specs.Stages.{fetch_work, reaching}
use Rattle.mk_driver.specs.Settling.{was_validated, seqs_of, settling, settling_takeover, taking_over, resuming}
use Rattle.mk_driver.specs.Passes.{turns}

-- what comes of a task
abbrev pub work_on : RuleLines → Setting → ColumnState → Task → DriverState → Worked
work_on rules round column (Deliver first end) driver = delivering_from rules column first end driver
work_on rules round column (DeliverSince sent) driver = delivering_from rules column (sent + 1) (length column.link + 1) driver
work_on rules round column (Take number) driver = taking column number [] driver
work_on rules round column (Notice id) driver = noticing column id driver
work_on rules round column (Fetch id) driver = fetch_work column id driver
work_on rules round column (Reach id point) driver = reaching rules round column id point driver
work_on rules round column (Resume id) driver = resuming column id driver
work_on rules round column (Turns place did) driver = turns round column place did driver
work_on rules round column (Takeover id view) driver = taking_over round column id view driver
work_on rules round column Late driver = taking_late column driver.late driver
work_on rules round column (Settle id) driver = settling round column id driver
work_on rules round column (SettleTakeover id view) driver = settling_takeover round column id view driver

-- what is done in a part with an attempt
abbrev pub attempt_task : ColumnState → Part → TxnId → List Task
attempt_task column ResumePart id = Resume id ∷ []
attempt_task column SettlePart id = if was_validated column id then Settle id ∷ [] else []
attempt_task column part id = []

-- and with a client's attempts, in order
abbrev pub attempt_tasks : ColumnState → Part → ℕ → List Task
attempt_tasks column part client =
    flat_map (λ seq. attempt_task column part (record { client = client; seq = seq })) (seqs_of (client_of column client))

-- an open takeover is settled
abbrev pub open_task : Option (TxnId × ℕ) → List Task
open_task (Some turn) = SettleTakeover turn.0 turn.1 ∷ []
open_task None = []

-- the tasks with which a part begins: attempts come by client and then by place, and takeovers in the order begun
abbrev pub tasks_of : ColumnState → DriverState → Part → List Task
tasks_of column driver ResumePart = flat_map (λ caller. attempt_tasks column ResumePart caller.number) driver.callers
tasks_of column driver TurnsPart = Turns 0 false ∷ []
tasks_of column driver TakeoversPart = flat_map (λ line. Takeover line.id line.view ∷ []) driver.takeovers
tasks_of column driver LatePart = Late ∷ []
tasks_of column driver SettlePart =
    flat_map (λ caller. attempt_tasks column SettlePart caller.number) driver.callers
    ++ flat_map (λ place. open_task (open_at column place)) (numbers_from 0 (length column.takeovers))

-- what is named, and the driver once it is named
pub record Choice : Type 0 where
  pub next : Next
  pub driver : DriverState

-- the tasks that are left become these
abbrev pub with_agenda : List Task → DriverState → DriverState
with_agenda tasks driver = record driver { agenda = tasks }

-- these tasks come first
abbrev pub before_agenda : List Task → DriverState → DriverState
before_agenda tasks driver = record driver { agenda = tasks ++ driver.agenda }

-- a step is named, or what comes next goes on
abbrev pub or_next : Worked → (DriverState → Choice) → Choice
or_next (Quiet driver) next = next driver
or_next (Names step after driver) next = record { next = StepNext step; driver = before_agenda after driver }

-- the first step that the tasks name, and where they name none, what comes after them
abbrev pub in_agenda : RuleLines → Setting → ColumnState → (DriverState → Choice) → List Task → DriverState → Choice
in_agenda rules round column end [] driver = end (with_agenda [] driver)
in_agenda rules round column end (task ∷ tasks) driver =
    or_next (work_on rules round column task (with_agenda tasks driver)) (in_agenda rules round column end tasks)

-- the driver as a part begins, with the parts after it
abbrev pub with_part : ColumnState → Part → List Part → DriverState → DriverState
with_part column part parts driver = record driver { agenda = tasks_of column driver part; parts = parts }

-- the first step that the parts name
abbrev pub in_parts : RuleLines → Setting → ColumnState → List Part → DriverState → Choice
in_parts rules round column [] driver = record { next = Over; driver = driver }
in_parts rules round column (part ∷ parts) driver =
    in_agenda rules round column (in_parts rules round column parts) (tasks_of column driver part) (with_part column part parts driver)

-- a wanted key call comes first
abbrev pub unless_wanted : RuleLines → Setting → ColumnState → Option KeyCall → DriverState → Choice
unless_wanted rules round column (Some call) driver = record { next = KeyNext call; driver = driver }
unless_wanted rules round column None driver =
    in_agenda rules round column (in_parts rules round column driver.parts) driver.agenda driver

-- what comes next: the key call that is wanted, and else what the agenda and then the parts that are left name
abbrev pub choice : RuleLines → Setting → ColumnState → DriverState → Choice
choice rules round column driver = unless_wanted rules round column (wanted column.work) driver
