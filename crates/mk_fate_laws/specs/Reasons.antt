-- Why a base in force says what it says, with its cause.
use Rattle.std.specs.Prelude.{◌≡◌, ◌⊎◌, ◌<◌, ℕ, true, Option, Some, None, is_some}
use Rattle.mk_txn.specs.declared.TxnId.{TxnId}
use Rattle.mk_txn.specs.declared.Cause.{Cause}
use Rattle.mk_txn.specs.declared.Cause.TheVariants.{Epoch as ByEpoch}
use Rattle.mk_txn.specs.declared.Outcome.{Outcome}
use Rattle.mk_txn.specs.declared.Outcome.TheVariants.{Commit, Abort}
use Rattle.mk_model.specs.ColumnState.{AttemptState, attempt_of}
use Rattle.mk_model.specs.Deciding.{IsDecided}
use Rattle.mk_model.specs.Sending.{Proposed}
use Rattle.mk_column_laws.specs.Facts.{IsBacked}
use Rattle.mk_record_laws.specs.Causes.{IsCausedBy}
use Rattle.mk_model.specs.EpochState.{made_for}
use Rattle.mk_model.specs.Force.{InForce, source_of}
use Rattle.mk_epoch_laws.specs.PathLaws.{outcome_in}
use Rattle.mk_history.specs.Histories.{History}
use Rattle.mk_history.specs.Legality.{IsLegal}
use Rattle.mk_history.specs.Shape.{HasShape}
use Rattle.mk_history.specs.Teaching.{entered_round}
use Rattle.mk_history.specs.Wholes.{last_state}
use Rattle.mk_run_laws.specs.Ends.{last_moment, run_epoch}
use Rattle.mk_run_laws.specs.TaughtIn.{taught_in}

-- the base of an epoch that was entered is in force
abbrev pub EnteredInForce : Type 0
EnteredInForce = (run : History) → IsLegal run → (epoch j : ℕ) → entered_round run epoch ≡ Some j → InForce (last_state run).epochs epoch

-- why a base has this outcome of an attempt of its source's epoch: it is decided just so, it was proposed, or the base itself
-- makes it so
pub data WhyInForce (run : History) (c epoch : ℕ) (id : TxnId) (said : Option Outcome) : Type 0 where
  WasDecided : (outcome : Outcome) → IsDecided run.faults (last_moment run c).column id outcome → said ≡ Some outcome → WhyInForce run c epoch id said
  WasProposed : (view : ℕ) (outcome : Outcome) → Proposed (last_moment run c).column.link id view outcome → said ≡ Some outcome → WhyInForce run c epoch id said
  WasTaken : said ≡ Some Commit → WhyInForce run c epoch id said
  WasGivenUp : said ≡ Some (Abort (ByEpoch epoch)) → WhyInForce run c epoch id said
  NotListed : said ≡ None → WhyInForce run c epoch id said

abbrev pub OutcomesInForce : Type 0
OutcomesInForce =
    (run : History) → HasShape run → IsLegal run → (epoch : ℕ) → InForce (last_state run).epochs epoch → 0 < epoch →
    (c : ℕ) → c < run.columns → (id : TxnId) (a : AttemptState) → attempt_of (last_moment run c).column id ≡ Some a → run_epoch run id ≡ source_of (last_state run).epochs epoch →
    WhyInForce run c epoch id (outcome_in (last_state run).epochs epoch id)

-- ---- causes

-- the column has what the cause of the attempt's abort names, or the cause is an epoch above the attempt's, whose base was made
abbrev pub IsCaused : History → ℕ → AttemptState → Cause → Type 0
IsCaused run c a cause =
    IsCausedBy (last_moment run c) a.id (Abort cause)
    ⊎ ((epoch : ℕ) × (cause ≡ ByEpoch epoch) × (is_some (made_for epoch (last_state run).epochs) ≡ true) × (a.epoch < epoch))

-- so is each abort that a base in force lists
abbrev pub BaseAbortsAreCaused : Type 0
BaseAbortsAreCaused =
    (run : History) → HasShape run → IsLegal run → (epoch : ℕ) → InForce (last_state run).epochs epoch → (c : ℕ) → c < run.columns → (id : TxnId) (a : AttemptState) →
    attempt_of (last_moment run c).column id ≡ Some a → (cause : Cause) → outcome_in (last_state run).epochs epoch id ≡ Some (Abort cause) → IsCaused run c a cause

-- and each that a column learned
abbrev pub BackedAbortsAreCaused : Type 0
BackedAbortsAreCaused =
    (run : History) → HasShape run → IsLegal run → (c : ℕ) → c < run.columns → (id : TxnId) (a : AttemptState) → attempt_of (last_moment run c).column id ≡ Some a →
    (cause : Cause) (round : ℕ) → IsBacked (taught_in run) (last_moment run c) id (Abort cause) round → IsCaused run c a cause
