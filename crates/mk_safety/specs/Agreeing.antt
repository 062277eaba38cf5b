-- What is learned in a run rests on something, and agrees.
use Rattle.std.specs.Prelude.{◌≡◌, ◌<◌, ℕ, Some}
use Rattle.mk_lists.specs.Among.{Among}
use Rattle.mk_txn.specs.declared.TxnId.{TxnId}
use Rattle.mk_txn.specs.declared.Outcome.{Outcome}
use Rattle.mk_model.specs.ColumnState.{AttemptState, attempt_of}
use Rattle.mk_history.specs.Histories.{History}
use Rattle.mk_history.specs.Shape.{HasShape}
use Rattle.mk_history.specs.Legality.{IsLegal}
use Rattle.mk_history.specs.Learning.{Learnt, learned}
use Rattle.mk_history.specs.Safety.{Agree}
use Rattle.mk_run_laws.specs.Ends.{last_moment}
use Rattle.mk_fate_laws.specs.Fates.{RestsOn}

-- the outcome rests on a decision or on a base, and the attempt is there
pub record RestsIn (run : History) (id : TxnId) (outcome : Outcome) : Type 0 where
  pub column : ℕ
  pub in_run : column < run.columns
  pub attempt : AttemptState
  pub found : attempt_of (last_moment run column).column id ≡ Some attempt
  pub rests : RestsOn run column id outcome

-- so does all that is learned, by whomever
abbrev pub LearningsRest : Type 0
LearningsRest = (run : History) → IsLegal run → (l : Learnt) → Among l (learned run) → RestsIn run l.id l.outcome

-- so all of it agrees
abbrev pub LearningsAgree : Type 0
LearningsAgree = (run : History) → HasShape run → IsLegal run → Agree (learned run)
