-- The last moment of a column, and the epochs' last state.
use Rattle.std.proofs.Common.{◌≡◌, ◌∙◌, ◌<◌, ℕ, sym, subst, [], Some}
use Rattle.std.proofs.lemmas.List.{append-nil}
use Rattle.mk_txn.specs.declared.TxnId.{TxnId}
use Rattle.mk_model.specs.ColumnState.{AttemptState, attempt_of}
use Rattle.mk_model.specs.EpochState.{EpochState}
use Rattle.mk_epoch_laws.specs.Turns.{Always}
use Rattle.mk_history.specs.Histories.{History}
use Rattle.mk_history.specs.Legality.{IsLegal}
use Rattle.mk_history.specs.Wholes.{last_state}
use Rattle.mk_run_laws.specs.RunEvents.{IsMomentOf, turns_of}
use Rattle.mk_run_laws.specs.Ends.{last_moment}
use Rattle.mk_run_laws.specs.Lifts.{MomentsOfRounds, IdsAreOfColumns}
use Rattle.mk_run_laws.specs.RunLaws.{LinesAreTurns}

pub last_is_moment : MomentsOfRounds → (run : History) (c : ℕ) → IsMomentOf run c (last_moment run c)
last_is_moment moments run c = moments run c run.rounds [] (sym (append-nil run.rounds))

-- what is so of all states of the epochs is so of the last one
pub last_always : LinesAreTurns → (run : History) → IsLegal run → (P : EpochState → Type 0) → Always P → P (last_state run).epochs
last_always lines run legal P always = let l = lines run run.rounds legal in subst P l.1 (always run.faults (turns_of run run.rounds) l.0)

-- attempts of one number are of one column
pub same_column : MomentsOfRounds → IdsAreOfColumns → (run : History) → IsLegal run → (c d : ℕ) → c < run.columns → d < run.columns → (id : TxnId) (a b : AttemptState) →
    attempt_of (last_moment run c).column id ≡ Some a → attempt_of (last_moment run d).column id ≡ Some b → c ≡ d
same_column moments ids run legal c d clt dlt id a b here there =
    sym (ids run legal c clt (last_moment run c) (last_is_moment moments run c) id a here)
    ∙ ids run legal d dlt (last_moment run d) (last_is_moment moments run d) id b there
