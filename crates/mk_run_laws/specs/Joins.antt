-- The columns of the whole after some rounds, and those of the moments that their events lead to.
use Rattle.std.specs.Prelude.{◌≡◌, ◌<◌, ℕ, true, List, Some, map, is_some}
use Rattle.mk_lists.specs.Among.{Among}
use Rattle.mk_txn.specs.declared.TxnId.{TxnId}
use Rattle.mk_model.specs.ColumnState.{ColumnState, AttemptState, attempt_of}
use Rattle.mk_model.specs.Logs.{not_reading}
use Rattle.mk_column_laws.specs.Moments.{Moment}
use Rattle.mk_history.specs.declared.RoundLog.{RoundLog}
use Rattle.mk_history.specs.Histories.{History}
use Rattle.mk_history.specs.Legality.{IsLegal}
use Rattle.mk_history.specs.Wholes.{WholeState, first_state, column_of, state_through}
use Rattle.mk_run_laws.specs.RunEvents.{moment_of}
use Rattle.mk_run_laws.specs.Ends.{last_moment, run_attempt, run_epoch}

-- the column at the end of a round: no attempt reads any more, and records and marks may have been emptied
pub record EndsAs (m : Moment) (column : ColumnState) : Type 0 where
  pub clients : column.clients ≡ m.column.clients
  pub attempts : column.attempts ≡ map not_reading m.column.attempts
  pub takeovers : column.takeovers ≡ m.column.takeovers
  pub link : column.link ≡ m.column.link
  pub learned : column.learned ≡ m.column.learned

abbrev pub EndsJoin : Type 0
EndsJoin =
    (run : History) (c : ℕ) → c < run.columns → (done : List RoundLog) →
    EndsAs (moment_of run c done) (column_of (state_through run (first_state run) done) c)

-- the columns of the whole are those of the numbers below the run's columns
pub record HasColumns (run : History) (state : WholeState) : Type 0 where
  pub there : (c : ℕ) → c < run.columns → Among (column_of state c) state.columns
  pub only : (column : ColumnState) → Among column state.columns → (c : ℕ) × (c < run.columns) × (column_of state c ≡ column)

abbrev pub ColumnsAreNumbered : Type 0
ColumnsAreNumbered = (run : History) (done : List RoundLog) → HasColumns run (state_through run (first_state run) done)

-- an attempt of a column is the run's attempt of its number, and its epoch that number's, if it is stamped
abbrev pub AttemptsJoin : Type 0
AttemptsJoin =
    (run : History) → IsLegal run → (c : ℕ) → c < run.columns → (id : TxnId) (a : AttemptState) → attempt_of (last_moment run c).column id ≡ Some a →
    run_attempt run id ≡ Some (not_reading a)

abbrev pub EpochsJoin : Type 0
EpochsJoin =
    (run : History) → IsLegal run → (c : ℕ) → c < run.columns → (id : TxnId) (a : AttemptState) → attempt_of (last_moment run c).column id ≡ Some a →
    is_some a.txn ≡ true → run_epoch run id ≡ a.epoch

-- and each attempt of the run is one of a column
abbrev pub RunAttemptsAreThere : Type 0
RunAttemptsAreThere =
    (run : History) (id : TxnId) (b : AttemptState) → run_attempt run id ≡ Some b →
    (c : ℕ) × (c < run.columns) × (a : AttemptState) × (attempt_of (last_moment run c).column id ≡ Some a) × (b ≡ not_reading a)
