-- Whatever a task comes to keeps the rest of the agenda, makes no message late or held, and lets what its step sends wait.
use Rattle.std.proofs.Common.{◌≡◌, ◌⊎◌, ◌<◌, ◌∙◌, ℕ, zero, suc, ◌+◌, ◌-◌, Bool, true, false, refl, inl, inr, List, [], ◌∷◌, ◌++◌, length, Option, Some, None}
use Rattle.std.specs.Prelude.{slice_get}
use Rattle.mk_txn.specs.declared.TxnId.{TxnId}
use Rattle.mk_txn.specs.declared.Outcome.{Outcome}
use Rattle.mk_words.specs.Links.{message}
use Rattle.mk_words.specs.declared.Ruling.{Ruling}
use Rattle.mk_words.specs.declared.Ruling.TheVariants.{Fast, Propose, Learned, Short, Unaccepted}
use Rattle.mk_words.specs.Rulings.{ruling}
use Rattle.mk_script.specs.declared.lines.Point.{Point}
use Rattle.mk_script.specs.declared.lines.Point.TheVariants.{Read as AfterRead, Votes as AfterVotes, Accepts as AfterAccepts}
use Rattle.mk_words.specs.declared.Step.{Step}
use Rattle.mk_words.specs.declared.Step.TheVariants.{Begin, Unread, Read, Stamp, Take as TakeStep, Stop}
use Rattle.mk_model.specs.ColumnState.{Setting, ColumnState, AttemptState, ClientState, attempt_of, client_of, numbers_from}
use Rattle.mk_driver.specs.declared.Task.{Task}
use Rattle.mk_driver.specs.declared.Task.TheVariants.{Deliver, DeliverSince, Take as TakeTask, Notice, Fetch, Reach, Resume, Turns, Takeover, Late, Settle, SettleTakeover}
use Rattle.mk_driver.specs.declared.DriverState.{DriverState}
use Rattle.mk_driver.specs.declared.Caller.{Caller}
use Rattle.mk_driver.specs.declared.Request.{Request}
use Rattle.mk_driver.specs.declared.Stage.{Stage}
use Rattle.mk_driver.specs.Agenda.{Worked}
use Rattle.mk_driver.specs.Agenda.Worked.{Quiet, Names}
use Rattle.mk_driver.specs.Stages.{Turn, turn_of, turn_by, begin_next, begin_of, begin_by, reader_for, next_request, stage_after, stage_three, stage_four, ruled_by, closed_by}
use Rattle.mk_driver.specs.Stages.Turn.{Nothing, Silent, Steps}
use Rattle.mk_driver.specs.Passes.{after_turn, in_pass, after_passes, turns}
use Rattle.mk_quiet_laws.specs.Waiting.{Waits}

-- what waits in the first tasks waits with others behind them
pub waits-more : (number : ℕ) (tasks more : List Task) → Waits number tasks → Waits number (tasks ++ more)
waits-more number [] more w = absurd w
waits-more number (Deliver first end ∷ tasks) more w = elim w [ inl k ↦ inl k | inr k ↦ inr (waits-more number tasks more k) ]
waits-more number (DeliverSince sent ∷ tasks) more w = elim w [ inl k ↦ inl k | inr k ↦ inr (waits-more number tasks more k) ]
waits-more number (TakeTask other ∷ tasks) more w = elim w [ inl k ↦ inl k | inr k ↦ inr (waits-more number tasks more k) ]
waits-more number (Notice id ∷ tasks) more w = waits-more number tasks more w
waits-more number (Fetch id ∷ tasks) more w = absurd w
waits-more number (Reach id point ∷ tasks) more w = absurd w
waits-more number (Resume id ∷ tasks) more w = absurd w
waits-more number (Turns place did ∷ tasks) more w = absurd w
waits-more number (Takeover id view ∷ tasks) more w = absurd w
waits-more number (Late ∷ tasks) more w = absurd w
waits-more number (Settle id ∷ tasks) more w = absurd w
waits-more number (SettleTakeover id view ∷ tasks) more w = absurd w

-- agenda, late and held messages are as they were
pub record IsKept (old new : DriverState) : Type 0 where
  pub agenda : new.agenda ≡ old.agenda
  pub late : new.late ≡ old.late
  pub held : new.held ≡ old.held

pub kept-itself : (driver : DriverState) → IsKept driver driver
kept-itself driver = record { agenda = refl; late = refl; held = refl }

pub kept-through : (a b c : DriverState) → IsKept a b → IsKept b c → IsKept a c
kept-through a b c p q = record { agenda = q.agenda ∙ p.agenda; late = q.late ∙ p.late; held = q.held ∙ p.held }

-- the step sends nothing and begins no validation
abbrev pub IsSilent : ColumnState → Step → Type 0
IsSilent column (Begin client replica) = Unit {0}
IsSilent column (Unread client) = Unit {0}
IsSilent column (Read id key) = Unit {0}
IsSilent column (Stamp id clock writes) = Unit {0}
IsSilent column (Stop id) = Unit {0}
IsSilent column (TakeStep number) = message column.link number ≡ None
IsSilent column _ = ⊥

-- what the step sends waits in the tasks that follow it
abbrev pub Covers : ColumnState → Step → List Task → Type 0
Covers column step after = IsSilent column step ⊎ ((number : ℕ) → length column.link < number → Waits number after)

pub covers-more : (column : ColumnState) (step : Step) (after more : List Task) → Covers column step after → Covers column step (after ++ more)
covers-more column step after more (inl s) = inl s
covers-more column step after more (inr w) = inr (λ number lt. waits-more number after more (w number lt))

-- what comes of a task, and of a client's turn
abbrev pub FineWork : ColumnState → DriverState → Worked → Type 0
FineWork column old (Quiet driver) = IsKept old driver
FineWork column old (Names step after driver) = IsKept old driver × Covers column step after

abbrev pub FineTurn : ColumnState → DriverState → Turn → Type 0
FineTurn column old Nothing = Unit {0}
FineTurn column old (Silent driver) = IsKept old driver
FineTurn column old (Steps step after driver) = IsKept old driver × Covers column step after

-- ---- a client's turn

module _ (round : Setting) (column : ColumnState) where
  begins_fine : (client : ClientState) (caller : Caller) (o : Option ℕ) (driver : DriverState) → FineTurn column driver (begin_by client caller o driver)
  begins_fine client caller (Some replica) driver = (record { agenda = refl; late = refl; held = refl }, inl tt)
  begins_fine client caller None driver = (record { agenda = refl; late = refl; held = refl }, inl tt)

  next_fine : (caller : Caller) (o : Option Request) (driver : DriverState) → FineTurn column driver (begin_next round column caller o driver)
  next_fine caller None driver = tt
  next_fine caller (Some request) driver = by (client_of column caller.number)
    where
      by : (c : Option ClientState) → FineTurn column driver (begin_of round c caller driver)
      by None = tt
      by (Some client) = begins_fine client caller (reader_for round caller.home client.heard) driver

  ruled_fine : (caller : Caller) (id : TxnId) (r : Ruling) (driver : DriverState) → FineTurn column driver (ruled_by column caller id r driver)
  ruled_fine caller id (Fast o) driver = (record { agenda = refl; late = refl; held = refl }, inr (λ number lt. inl lt))
  ruled_fine caller id (Propose o) driver = (record { agenda = refl; late = refl; held = refl }, inr (λ number lt. inl lt))
  ruled_fine caller id (Learned o) driver = record { agenda = refl; late = refl; held = refl }
  ruled_fine caller id (Short k) driver = record { agenda = refl; late = refl; held = refl }
  ruled_fine caller id (Unaccepted k) driver = record { agenda = refl; late = refl; held = refl }

  closed_fine : (caller : Caller) (id : TxnId) (r : Ruling) (driver : DriverState) → FineTurn column driver (closed_by column caller id r driver)
  closed_fine caller id (Learned o) driver = (record { agenda = refl; late = refl; held = refl }, inr (λ number lt. inl lt))
  closed_fine caller id (Fast o) driver = record { agenda = refl; late = refl; held = refl }
  closed_fine caller id (Propose o) driver = record { agenda = refl; late = refl; held = refl }
  closed_fine caller id (Short k) driver = record { agenda = refl; late = refl; held = refl }
  closed_fine caller id (Unaccepted k) driver = record { agenda = refl; late = refl; held = refl }

  stage_fine : (caller : Caller) (id : TxnId) (point : Point) (o : Option AttemptState) (driver : DriverState) → FineTurn column driver (stage_after round column caller id point o driver)
  stage_fine caller id AfterRead (Some a) driver = (record { agenda = refl; late = refl; held = refl }, inr (λ number lt. inl lt))
  stage_fine caller id AfterVotes (Some a) driver = by a.coord.learned
    where
      by : (o : Option Outcome) → FineTurn column driver (stage_three round column caller id a.coord o driver)
      by (Some o) = record { agenda = refl; late = refl; held = refl }
      by None = ruled_fine caller id (ruling round.faults a.coord) driver
  stage_fine caller id AfterAccepts (Some a) driver = by a.coord.learned
    where
      by : (o : Option Outcome) → FineTurn column driver (stage_four round column caller id a.coord o driver)
      by (Some o) = record { agenda = refl; late = refl; held = refl }
      by None = closed_fine caller id (ruling round.faults a.coord) driver
  stage_fine caller id AfterRead None driver = record { agenda = refl; late = refl; held = refl }
  stage_fine caller id AfterVotes None driver = record { agenda = refl; late = refl; held = refl }
  stage_fine caller id AfterAccepts None driver = record { agenda = refl; late = refl; held = refl }

  pub turn_fine : (o : Option Caller) (driver : DriverState) → FineTurn column driver (turn_of round column o driver)
  turn_fine None driver = tt
  turn_fine (Some caller) driver = by caller.under_way
    where
      by : (s : Option Stage) → FineTurn column driver (turn_by round column caller s driver)
      by (Some stage) = stage_fine caller stage.id stage.reached (attempt_of column stage.id) driver
      by None = next_fine caller (next_request caller) driver

  -- ---- passes

  module _ (old : DriverState) where
    pass_fine : (end : Bool → DriverState → Worked) → ((did : Bool) (driver : DriverState) → IsKept old driver → FineWork column old (end did driver)) →
        (places : List ℕ) (did : Bool) (driver : DriverState) → IsKept old driver → FineWork column old (in_pass round column end places did driver)
    pass_fine end fine [] did driver k = fine did driver k
    pass_fine end fine (place ∷ places) did driver k =
        by (λ d other kept. pass_fine end fine places d other kept) (turn_of round column (slice_get driver.callers place) driver) (turn_fine (slice_get driver.callers place) driver)
      where
        by : ((d : Bool) (other : DriverState) → IsKept old other → FineWork column old (in_pass round column end places d other)) → (t : Turn) → FineTurn column driver t →
            FineWork column old (after_turn place t did (in_pass round column end places) driver)
        by again Nothing f = again did driver k
        by again (Silent changed) f = again true changed (kept-through old driver changed k f)
        by again (Steps step after changed) f = (kept-through old driver changed k f.0, covers-more column step after (Turns (place + 1) true ∷ []) f.1)

    passes_fine : (left : ℕ) (did : Bool) (driver : DriverState) → IsKept old driver → FineWork column old (after_passes left round column did driver)
    passes_fine left false driver k = k
    passes_fine zero true driver k = k
    passes_fine (suc left) true driver k = pass_fine (after_passes left round column) (λ d other kept. passes_fine left d other kept) (numbers_from 0 (length driver.callers)) false driver k

  pub turns_fine : (place : ℕ) (did : Bool) (driver : DriverState) → FineWork column driver (turns round column place did driver)
  turns_fine place did driver =
      pass_fine driver (after_passes 2 round column) (λ d other kept. passes_fine driver 2 d other kept) (numbers_from place (length driver.callers - place)) did driver (kept-itself driver)
