-- What tasks, agendas, client's turns and passes come to.
use Rattle.std.specs.Prelude.{◌≡◌, ◌-◌, ℕ, Bool, true, List, [], ◌∷◌, length, Option, Some, None, IfNone}
use Rattle.mk_faults.specs.Fates.{RuleLines}
use Rattle.mk_words.specs.declared.Step.{Step}
use Rattle.mk_model.specs.ColumnState.{Setting, ColumnState, numbers_from}
use Rattle.mk_driver.specs.declared.Task.{Task}
use Rattle.mk_driver.specs.declared.DriverState.{DriverState}
use Rattle.mk_words.specs.declared.KeyCall.{KeyCall}
use Rattle.mk_driver.specs.declared.Next.{Next}
use Rattle.mk_driver.specs.declared.Next.TheVariants.{Step as StepNext, Key as KeyNext, Over}
use Rattle.mk_driver.specs.declared.Turned.{Turned}
use Rattle.mk_driver.specs.declared.Turned.TheVariants.{Nothing as NothingDone, Silent as SilentlyDone, Stepped as TurnStepped}
use Rattle.mk_driver.specs.declared.Passed.{Passed}
use Rattle.mk_driver.specs.declared.Passed.TheVariants.{Stepped as PassStepped, Ended, Stuck}
use Rattle.mk_driver.specs.Agenda.{Worked}
use Rattle.mk_driver.specs.Stages.{Turn}
use Rattle.mk_driver.specs.Passes.{in_pass, after_turn}
use Rattle.mk_driver.specs.Turns.{Choice, or_next, in_agenda, with_agenda}

-- what a task or an agenda comes to: the step that it names, or what comes after it
abbrev pub ended : Option Step → (DriverState → Choice) → DriverState → Choice
ended (Some step) end driver = record { next = StepNext step; driver = driver }
ended None end driver = end driver

-- what comes of a task: the step, with the driver as it is then, or none, and what comes after it goes on from that driver
abbrev pub ComesTo : Worked → Option Step → DriverState → Type 0
ComesTo worked step driver = (end : DriverState → Choice) → or_next worked end ≡ ended step end driver

-- the tasks without the first
abbrev pub after_first : List Task → List Task
after_first [] = []
after_first (task ∷ tasks) = tasks

-- the driver as its first task is worked on
abbrev pub without_first : DriverState → DriverState
without_first driver = with_agenda (after_first driver.agenda) driver

-- a task that names no step leaves the tasks after it
abbrev pub IsDone : DriverState → Option Step → DriverState → Type 0
IsDone old step new = IfNone step ((new.agenda ≡ after_first old.agenda) × (new.parts ≡ old.parts))

-- the tasks of the two name the same
abbrev pub NamesAlike : RuleLines → Setting → ColumnState → DriverState → DriverState → Type 0
NamesAlike rules round column one other =
    (end : DriverState → Choice) → in_agenda rules round column end one.agenda one ≡ in_agenda rules round column end other.agenda other

-- what comes after a client's turn: the step, or the rest of the pass
abbrev pub turned : Turned → Bool → (Bool → DriverState → Worked) → (DriverState → Choice) → DriverState → Choice
turned (TurnStepped step) did next end driver = record { next = StepNext step; driver = driver }
turned NothingDone did next end driver = or_next (next did (without_first driver)) end
turned SilentlyDone did next end driver = or_next (next true (without_first driver)) end

-- what comes after a pass: the step, what is to come after it, or the rest of the pass
abbrev pub passed : Setting → ColumnState → Passed → (Bool → DriverState → Worked) → (DriverState → Choice) → DriverState → Choice
passed round column (PassStepped step) after end driver = record { next = StepNext step; driver = driver }
passed round column (Ended did) after end driver = or_next (after did (without_first driver)) end
passed round column (Stuck place did) after end driver =
    or_next (in_pass round column after (numbers_from place (length driver.callers - place)) did (without_first driver)) end

-- a client's turn without a step leaves agenda, parts and the number of clients
abbrev pub IsKept : DriverState → DriverState → Turned → Type 0
IsKept old new (TurnStepped step) = Unit {0}
IsKept old new NothingDone = (new.agenda ≡ old.agenda) × (new.parts ≡ old.parts) × (length new.callers ≡ length old.callers)
IsKept old new SilentlyDone = (new.agenda ≡ old.agenda) × (new.parts ≡ old.parts) × (length new.callers ≡ length old.callers)

-- a pass without a step leaves agenda and parts
abbrev pub IsKeptBy : DriverState → DriverState → Passed → Type 0
IsKeptBy old new (PassStepped step) = Unit {0}
IsKeptBy old new (Ended did) = (new.agenda ≡ old.agenda) × (new.parts ≡ old.parts)
IsKeptBy old new (Stuck place did) = (new.agenda ≡ old.agenda) × (new.parts ≡ old.parts)

-- what a client does in its turn, whatever comes after it
abbrev pub IsTurned : ℕ → Turn → Turned → DriverState → DriverState → Type 0
IsTurned place turn t old new =
    (did : Bool) (next : Bool → DriverState → Worked) (end : DriverState → Choice) →
    or_next (after_turn place turn did next (without_first old)) end ≡ turned t did next end new

-- a step was named
abbrev pub IsStepped : Turned → Type 0
IsStepped (TurnStepped step) = Unit {0}
IsStepped _ = ⊥

-- the key call that is named
abbrev pub named_call : Next → Option KeyCall
named_call (KeyNext call) = Some call
named_call (StepNext step) = None
named_call Over = None

-- what holds where nothing more is named
abbrev pub IfOver : Next → Type 0 → Type 0
IfOver Over holds = holds
IfOver _ holds = Unit {0}
