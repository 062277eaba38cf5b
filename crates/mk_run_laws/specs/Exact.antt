-- What was taught, with its cause.
use Rattle.std.specs.Prelude.{◌≡◌, ◌<◌, ℕ, true, Some}
use Rattle.mk_lists.specs.Among.{Among}
use Rattle.mk_txn.specs.declared.TxnId.{TxnId}
use Rattle.mk_txn.specs.declared.Outcome.{Outcome}
use Rattle.mk_model.specs.EpochState.{MadeBase}
use Rattle.mk_history.specs.Histories.{History}
use Rattle.mk_history.specs.Wholes.{last_state}
use Rattle.mk_history.specs.Teaching.{entered_round, stands_in}
use Rattle.mk_run_laws.specs.TaughtIn.{taught_in}

-- a base of an epoch above that was entered before this round has just this outcome of the attempt
pub record IsTaughtExactly (run : History) (id : TxnId) (epoch : ℕ) (outcome : Outcome) (round : ℕ) : Type 0 where
  pub made : MadeBase
  pub in_run : Among made (last_state run).epochs.made
  pub above : epoch < made.epoch
  pub entered_in : ℕ
  pub entered : entered_round run made.epoch ≡ Some entered_in
  pub earlier : entered_in < round
  pub teaches : stands_in made.base made.epoch id ≡ outcome

abbrev pub TaughtExactly : Type 0
TaughtExactly =
    (run : History) (id : TxnId) (epoch : ℕ) (outcome : Outcome) (round : ℕ) → taught_in run id epoch outcome round ≡ true →
    IsTaughtExactly run id epoch outcome round
