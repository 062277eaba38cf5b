-- What a run has come to after some of its rounds, and at its end.
use Rattle.std.specs.Prelude.{◌≡◌, ℕ, ◌-◌, List, [], ◌∷◌, ◌++◌, Option, Some, None, slice_index_or, is_some, if◌then◌else◌}
use Rattle.std.specs.Option.{option_or}
use Rattle.mk_txn.specs.declared.TxnId.{TxnId}
use Rattle.mk_words.specs.declared.GlobalEntry.{GlobalEntry}
use Rattle.mk_model.specs.ColumnState.{ColumnState, AttemptState, attempt_of}
use Rattle.mk_model.specs.EpochState.{EpochState, first_epochs}
use Rattle.mk_column_laws.specs.Moments.{Moment}
use Rattle.mk_epoch_laws.specs.Turns.{GlobalTurn, after_turns, EachAnswered}
use Rattle.mk_history.specs.declared.RoundLog.{RoundLog}
use Rattle.mk_history.specs.Histories.{History}
use Rattle.mk_history.specs.Legality.{EachRoundLegal, IsLegalRound}
use Rattle.mk_history.specs.Wholes.{WholeState, first_state, after_logs, globals_through, state_through, last_state}
use Rattle.mk_run_laws.specs.RunEvents.{moment_of, turns_of, turns_in}

-- the epoch machine after these rounds
abbrev pub epochs_after : History → List RoundLog → EpochState
epochs_after run done = (state_through run (first_state run) done).epochs

-- the last moment of a column: after the log of the last round, before its global lines
abbrev pub last_moment : History → ℕ → Moment
last_moment run c = moment_of run c run.rounds

-- the column of a client
abbrev pub client_column : History → ℕ → ℕ
client_column run n = slice_index_or run.client_columns (n - 1) 0

-- the first attempt of this number in these columns
abbrev pub attempt_among : TxnId → List ColumnState → Option AttemptState
attempt_among id [] = None
attempt_among id (column ∷ columns) = option_or (attempt_of column id) (attempt_among id columns)

-- the attempt of this number in the run
abbrev pub run_attempt : History → TxnId → Option AttemptState
run_attempt run id = attempt_among id (last_state run).columns

-- the epoch of an attempt that was stamped; any other counts as of epoch 0
abbrev pub stamped_epoch : Option AttemptState → ℕ
stamped_epoch (Some a) = if is_some a.txn then a.epoch else 0
stamped_epoch None = 0

abbrev pub run_epoch : History → TxnId → ℕ
run_epoch run id = stamped_epoch (run_attempt run id)

-- the lines of these rounds are turns with legal answers, up to the first rounds and from there on
pub record IsSplit (run : History) (done rest : List RoundLog) : Type 0 where
  pub more : List GlobalTurn
  pub early : EachAnswered (first_epochs run.faults) (turns_of run done)
  pub late : EachAnswered (after_turns (first_epochs run.faults) (turns_of run done)) more
  pub to_done : after_turns (first_epochs run.faults) (turns_of run done) ≡ epochs_after run done
  pub to_end : after_turns (after_turns (first_epochs run.faults) (turns_of run done)) more ≡ epochs_after run (done ++ rest)

-- so what is so of all later states is so of the state after some rounds with that after more
abbrev pub RoundsSplit : Type 0
RoundsSplit = (run : History) (done rest : List RoundLog) → EachRoundLegal run (first_state run) (done ++ rest) → IsSplit run done rest

-- the whole after these rounds, the logs of one more, and some of its lines
abbrev pub whole_within : History → List RoundLog → RoundLog → List GlobalEntry → WholeState
whole_within run done round lines = globals_through run (after_logs run round (state_through run (first_state run) done)) lines

-- the turns up to there
abbrev pub turns_within : History → List RoundLog → RoundLog → List GlobalEntry → List GlobalTurn
turns_within run done round lines = turns_of run done ++ turns_in run (after_logs run round (state_through run (first_state run) done)) lines

-- within a legal round, too, they have legal answers and lead to the epoch machine of the whole
abbrev pub TurnsWithin : Type 0
TurnsWithin =
    (run : History) (done : List RoundLog) (round : RoundLog) (lines more : List GlobalEntry) → EachRoundLegal run (first_state run) done →
    IsLegalRound run round (state_through run (first_state run) done) → round.globals ≡ lines ++ more →
    EachAnswered (first_epochs run.faults) (turns_within run done round lines)
    × (after_turns (first_epochs run.faults) (turns_within run done round lines) ≡ (whole_within run done round lines).epochs)
