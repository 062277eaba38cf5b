-- The columns, the cells and the epochs that are kept, and the states of a run for which they stand.
use Rattle.std.specs.Prelude.{◌≡◌, ℕ, true, None, List, length, map}
use Rattle.mk_lists.specs.Among.{Each}
use Rattle.mk_quorum.specs.Sizes.{members}
use Rattle.mk_words.specs.Bases.{BaseState}
use Rattle.mk_words.specs.Cells.{CellState}
use Rattle.mk_words.specs.Lines.{line_fits}
use Rattle.mk_words.specs.declared.GlobalLine.{GlobalLine}
use Rattle.mk_words.specs.declared.GlobalAnswer.{GlobalAnswer}
use Rattle.mk_model.specs.ColumnState.{numbers_from}
use Rattle.mk_model.specs.Conditions.{wanted}
use Rattle.mk_model.specs.GlobalSteps.{IsAnswer}
use Rattle.mk_model.specs.Logs.{reading_ended}
use Rattle.mk_column.specs.ColumnByCode.{ColumnView}
use Rattle.mk_epoch.specs.Standing.{ReplicasView, StandsFor}
use Rattle.mk_history.specs.Histories.{History}
use Rattle.mk_history.specs.Wholes.{WholeState, setting_of, after_global}
use Rattle.mk_replay_laws.specs.AtLines.{IsReady}
use Rattle.mk_state.specs.Handing.{states_in, numbers_in}

-- what is kept, with bases of the type B: the sizes, and the columns, cells and epochs as the rounds so far left them
pub record WholeView (B : Type 0) : Type 0 where
  pub faults : ℕ
  pub keys : ℕ
  pub columns : List ColumnView
  pub cells : List (List CellState)
  pub epochs : ReplicasView B

-- the column goes by the run's version and sizes, and wants no key call
pub record IsOfRun (run : History) (column : ColumnView) : Type 0 where
  pub version : column.setting.version ≡ run.version
  pub faults : column.setting.faults ≡ run.faults
  pub keys : column.setting.keys ≡ length run.key_names
  pub idle : wanted column.state.work ≡ None

-- all tables are as large as the run asks for, and columns are numbered from 0 on
pub record HasSizes {B : Type 0} (run : History) (whole : WholeView B) : Type 0 where
  pub faults : whole.faults ≡ run.faults
  pub keys : whole.keys ≡ length run.key_names
  pub changes : whole.epochs.faults ≡ run.faults
  pub columns : length whole.columns ≡ run.columns
  pub numbers : numbers_in whole.columns ≡ numbers_from 0 run.columns
  pub each : Each (IsOfRun run) whole.columns
  pub replicas : length whole.cells ≡ members run.faults
  pub rows : Each (λ row. length row ≡ length run.key_names) whole.cells

-- what is kept is this state, once the round's reading has ended
pub record IsAt {B : Type 0} (stands : B → BaseState → Type 0) (run : History) (whole : WholeView B) (state : WholeState) : Type 0 where
  pub sizes : HasSizes run whole
  pub columns : map reading_ended (states_in whole.columns) ≡ state.columns
  pub cells : whole.cells ≡ state.cells
  pub epochs : StandsFor stands whole.epochs state.epochs
  pub count : length state.epochs.replicas ≡ members run.faults

-- what is kept is this state, within a round
pub record IsWithin {B : Type 0} (stands : B → BaseState → Type 0) (run : History) (whole : WholeView B) (state : WholeState) : Type 0 where
  pub sizes : HasSizes run whole
  pub columns : states_in whole.columns ≡ state.columns
  pub cells : whole.cells ≡ state.cells
  pub epochs : StandsFor stands whole.epochs state.epochs
  pub count : length state.epochs.replicas ≡ members run.faults

-- what is kept is this state, and each column goes by it in the round that has begun
pub record IsBegun {B : Type 0} (stands : B → BaseState → Type 0) (run : History) (whole : WholeView B) (state : WholeState) : Type 0 where
  pub within : IsWithin stands run whole state
  pub settings : Each (λ column. column.setting ≡ setting_of run state) whole.columns

-- the line can be done in this state
pub record MayDo {B : Type 0} (stands : B → BaseState → Type 0) (run : History) (state : WholeState) (whole : WholeView B) (line : GlobalLine) : Type 0 where
  pub within : IsWithin stands run whole state
  pub ready : IsReady run state
  pub range : line_fits (members run.faults) line ≡ true

-- the line got an answer that this state allows, and what is kept is the state behind it
pub record WasDone {B : Type 0} (stands : B → BaseState → Type 0) (run : History) (state : WholeState) (line : GlobalLine) (answer : GlobalAnswer) (whole : WholeView B) : Type 0 where
  pub answered : IsAnswer state.epochs line answer
  pub within : IsWithin stands run whole (after_global run state (record { line = line; answer = answer }))
