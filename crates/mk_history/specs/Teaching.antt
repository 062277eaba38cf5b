-- What entered epochs have taught by a round. Facts of two columns are compared by the numbers of rounds alone.
use Rattle.std.specs.Prelude.{◌≡◌, ◌<◌, ℕ, ◌+◌, Bool, true, false, ◌&&◌, ◌==◌, List, [], ◌∷◌, Option, Some, None, if◌then◌else◌}
use Rattle.std.specs.List.{list_any}
use Rattle.std.specs.Option.{unwrap_or}
use Rattle.mk_txn.specs.declared.TxnId.{TxnId}
use Rattle.mk_txn.specs.declared.Cause.TheVariants.{Epoch as ByEpoch}
use Rattle.mk_txn.specs.declared.Outcome.{Outcome}
use Rattle.mk_txn.specs.declared.Outcome.TheVariants.{Abort}
use Rattle.mk_txn.specs.Outcomes.{agrees}
use Rattle.mk_words.specs.Bases.{BaseState, fate_in}
use Rattle.mk_words.specs.declared.GlobalEntry.{GlobalEntry}
use Rattle.mk_words.specs.declared.GlobalLine.{GlobalLine}
use Rattle.mk_words.specs.declared.GlobalLine.TheVariants.{Enter}
use Rattle.mk_model.specs.ColumnState.{AttemptState}
use Rattle.mk_model.specs.EpochState.{base_for}
use Rattle.mk_model.specs.GlobalAnswers.{is_accepted}
use Rattle.mk_history.specs.declared.RoundLog.{RoundLog}
use Rattle.mk_history.specs.Histories.{History}
use Rattle.mk_history.specs.Wholes.{last_state}

-- the line is an Enter of this epoch that was accepted
abbrev pub enters : ℕ → GlobalEntry → Bool
enters epoch entry = is_enter entry.line && is_accepted entry.answer
  where
    is_enter : GlobalLine → Bool
    is_enter (Enter other) = other == epoch
    is_enter _ = false

-- the first of these rounds in which the epoch was entered; the first has this number
abbrev pub entered_from : ℕ → ℕ → List RoundLog → Option ℕ
entered_from epoch number [] = None
entered_from epoch number (round ∷ rounds) =
    if list_any (enters epoch) round.globals then Some number else entered_from epoch (number + 1) rounds

-- the round in whose global lines the epoch was entered first; epoch 0 was entered before the first round
abbrev pub entered_round : History → ℕ → Option ℕ
entered_round run epoch = if epoch == 0 then Some 0 else entered_from epoch 1 run.rounds

-- what the base of an epoch makes of an attempt of an earlier one: absence counts as abort
abbrev pub stands_in : BaseState → ℕ → TxnId → Outcome
stands_in base epoch id = unwrap_or (fate_in id base.list) (Abort (ByEpoch epoch))

-- an epoch above the attempt's was entered before this round, and its base has such an outcome of the attempt
pub record IsTaughtBefore (run : History) (attempt : AttemptState) (outcome : Outcome) (round : ℕ) : Type 0 where
  pub epoch : ℕ
  pub above : attempt.epoch < epoch
  pub entered_in : ℕ
  pub entered : entered_round run epoch ≡ Some entered_in
  pub earlier : entered_in < round
  pub base : BaseState
  pub made : base_for epoch (last_state run).epochs ≡ Some base
  pub teaches : agrees (stands_in base epoch attempt.id) outcome ≡ true
