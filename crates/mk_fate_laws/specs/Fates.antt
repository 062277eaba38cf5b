-- What is decided of an attempt stands in every later base that is in force, all that a run learns agrees with it, and no two
-- commits conflict.
use Rattle.std.specs.Prelude.{◌≡◌, ◌<◌, ℕ, Some, true, false}
use Rattle.mk_lists.specs.Among.{Among}
use Rattle.mk_txn.specs.declared.TxnId.{TxnId}
use Rattle.mk_txn.specs.declared.Outcome.{Outcome}
use Rattle.mk_txn.specs.declared.Outcome.TheVariants.{Commit}
use Rattle.mk_txn.specs.Clashes.{conflict}
use Rattle.mk_txn.specs.Outcomes.{is_commit, agrees}
use Rattle.mk_txn.specs.Transactions.{Transaction}
use Rattle.mk_words.specs.declared.Entry.{Entry}
use Rattle.mk_words.specs.declared.Fated.{Fated}
use Rattle.mk_words.specs.Bases.{BaseState}
use Rattle.mk_words.specs.Promises.{PromiseState}
use Rattle.mk_model.specs.ColumnState.{AttemptState, attempt_of}
use Rattle.mk_model.specs.Deciding.{IsDecided}
use Rattle.mk_column_laws.specs.Facts.{IsBacked}
use Rattle.mk_model.specs.EpochState.{MadeBase, base_for}
use Rattle.mk_model.specs.Force.{InForce}
use Rattle.mk_epoch_laws.specs.BaseLaws.{counted_for}
use Rattle.mk_history.specs.Histories.{History}
use Rattle.mk_history.specs.Wholes.{last_state}
use Rattle.mk_history.specs.Shape.{HasShape}
use Rattle.mk_history.specs.Legality.{IsLegal}
use Rattle.mk_history.specs.Teaching.{entered_round, stands_in}
use Rattle.mk_run_laws.specs.TaughtIn.{taught_in}
use Rattle.mk_run_laws.specs.Ends.{last_moment, run_epoch}
use Rattle.mk_fate_laws.specs.InBases.{commits_at}

-- what an outcome rests on, whenever it was learned: it is decided, or the base of an entered epoch above makes it of the attempt
pub data RestsOn (run : History) (c : ℕ) (id : TxnId) (outcome : Outcome) : Type 0 where
  OnDecision : IsDecided run.faults (last_moment run c).column id outcome → RestsOn run c id outcome
  OnBase : (made : MadeBase) (j : ℕ) → Among made (last_state run).epochs.made → entered_round run made.epoch ≡ Some j →
      run_epoch run id < made.epoch → stands_in made.base made.epoch id ≡ outcome → RestsOn run c id outcome

-- what is backed rests so
abbrev pub BackedRests : Type 0
BackedRests =
    (run : History) → IsLegal run → (c : ℕ) → c < run.columns → (id : TxnId) (outcome : Outcome) (round : ℕ) →
    IsBacked (taught_in run) (last_moment run c) id outcome round → RestsOn run c id outcome

-- what is decided stands in each later base that is in force
abbrev pub DecidedStands : Type 0
DecidedStands =
    (run : History) → HasShape run → IsLegal run → (c : ℕ) → c < run.columns → (id : TxnId) (outcome : Outcome) →
    IsDecided run.faults (last_moment run c).column id outcome → (e : ℕ) → InForce (last_state run).epochs e → run_epoch run id < e →
    commits_at (last_state run).epochs e id ≡ is_commit outcome

-- so does all that an outcome may rest on
abbrev pub RestsStand : Type 0
RestsStand =
    (run : History) → HasShape run → IsLegal run → (c : ℕ) → c < run.columns → (id : TxnId) (outcome : Outcome) → RestsOn run c id outcome →
    (e : ℕ) → InForce (last_state run).epochs e → run_epoch run id < e → commits_at (last_state run).epochs e id ≡ is_commit outcome

-- and two such outcomes agree
abbrev pub RestsAgree : Type 0
RestsAgree =
    (run : History) → HasShape run → IsLegal run → (c : ℕ) → c < run.columns → (id : TxnId) (one other : Outcome) →
    RestsOn run c id one → RestsOn run c id other → agrees one other ≡ true

-- no two commits of a base in force conflict
abbrev pub NoClashInForce : Type 0
NoClashInForce =
    (run : History) → HasShape run → IsLegal run → (e : ℕ) → InForce (last_state run).epochs e →
    (base : BaseState) → base_for e (last_state run).epochs ≡ Some base → (one other : Fated) → Among one base.list → Among other base.list →
    one.outcome ≡ Commit → other.outcome ≡ Commit → conflict one.txn other.txn ≡ false

-- nor do any two on which outcomes rest
abbrev pub CommitsFit : Type 0
CommitsFit =
    (run : History) → HasShape run → IsLegal run → (c d : ℕ) → c < run.columns → d < run.columns → (id other : TxnId) (a b : AttemptState) (one two : Transaction) →
    attempt_of (last_moment run c).column id ≡ Some a → attempt_of (last_moment run d).column other ≡ Some b → a.txn ≡ Some one → b.txn ≡ Some two →
    RestsOn run c id Commit → RestsOn run d other Commit → conflict one two ≡ false

-- the outcome is decided of an attempt of the run
pub record IsDecidedIn (run : History) (id : TxnId) (outcome : Outcome) : Type 0 where
  pub column : ℕ
  pub in_run : column < run.columns
  pub attempt : AttemptState
  pub found : attempt_of (last_moment run column).column id ≡ Some attempt
  pub decided : IsDecided run.faults (last_moment run column).column id outcome

-- a final outcome that a counted promise of a base in force hands in is decided, with its cause
abbrev pub FinalInForce : Type 0
FinalInForce =
    (run : History) → HasShape run → IsLegal run → (e : ℕ) → InForce (last_state run).epochs e → 0 < e →
    (p : PromiseState) → Among p (counted_for (last_state run).epochs e) → (entry : Entry) → Among entry p.entries → (outcome : Outcome) → entry.last ≡ Some outcome →
    IsDecidedIn run entry.txn.id outcome
