-- What holds of every run that could have happened.
use Rattle.std.specs.Prelude.{◌≡◌, ◌≤◌, true, List}
use Rattle.mk_lists.specs.Among.{Among}
use Rattle.mk_txn.specs.declared.TxnId.{TxnId}
use Rattle.mk_txn.specs.MarkMaps.{covers}
use Rattle.mk_txn.specs.Outcomes.{agrees}
use Rattle.mk_model.specs.Explained.{IsExplained}
use Rattle.mk_model.specs.ColumnState.{ColumnState, AttemptState, is_settled}
use Rattle.mk_model.specs.EpochState.{MadeBase}
use Rattle.mk_history.specs.Histories.{History}
use Rattle.mk_history.specs.Shape.{HasShape}
use Rattle.mk_history.specs.Wholes.{last_state}
use Rattle.mk_history.specs.Legality.{IsLegal}
use Rattle.mk_history.specs.Learning.{Learnt, learned, commits}
use Rattle.mk_history.specs.Naming.{EachNamed}

-- whatever two learn of one attempt, both learn that it commits or both that it aborts
abbrev pub Agree : List Learnt → Type 0
Agree learnings = (a b : Learnt) → Among a learnings → Among b learnings → a.id ≡ b.id → agrees a.outcome b.outcome ≡ true

-- the run has this attempt, and its own coordinator has learned or it is unread
pub record IsSettled (run : History) (id : TxnId) : Type 0 where
  pub column : ColumnState
  pub in_run : Among column (last_state run).columns
  pub attempt : AttemptState
  pub in_column : Among attempt column.attempts
  pub same_attempt : attempt.id ≡ id
  pub settled : is_settled attempt ≡ true

-- the marks of each base that was made cover only attempts that their clients have done with
abbrev pub MarksCoverSettled : History → Type 0
MarksCoverSettled run =
    (base : MadeBase) (id : TxnId) → Among base (last_state run).epochs.made → 1 ≤ id.seq → covers base.base.marks id ≡ true → IsSettled run id

-- agreement, the one copy, causes and marks
pub record IsSafe (run : History) : Type 0 where
  pub agree : Agree (learned run)
  pub explained : IsExplained (commits run)
  pub named : EachNamed run
  pub marks : MarksCoverSettled run

-- the target of the safety work: every legal run is safe
abbrev pub LegalRunsAreSafe : Type 0
LegalRunsAreSafe = (run : History) → HasShape run → IsLegal run → IsSafe run
