-- Where what is learned in a run comes from.
use Rattle.std.specs.Prelude.{◌≡◌, ◌⊎◌, ◌<◌, ℕ, Bool, true, false, ◌==◌, map, filter, find, is_some, Option, Some}
use Rattle.mk_lists.specs.Among.{Among}
use Rattle.mk_txn.specs.declared.TxnId.{TxnId}
use Rattle.mk_txn.specs.declared.Outcome.{Outcome}
use Rattle.mk_txn.specs.MarkMaps.{covers}
use Rattle.mk_txn.specs.Transactions.{same_id}
use Rattle.mk_words.specs.Bases.{fate_in}
use Rattle.mk_model.specs.ColumnState.{Learning}
use Rattle.mk_model.specs.EpochState.{MadeBase}
use Rattle.mk_history.specs.Histories.{History}
use Rattle.mk_history.specs.declared.Path.{Path}
use Rattle.mk_history.specs.Learning.{Place, Found, Learnt, path_of, all_found, learned}
use Rattle.mk_history.specs.Learning.Place.{InLog, InGlobals}
use Rattle.mk_history.specs.Legality.{IsLegal}
use Rattle.mk_history.specs.Teaching.{entered_round}
use Rattle.mk_history.specs.Wholes.{last_state}
use Rattle.mk_run_laws.specs.Ends.{last_moment}

-- a column learned it, or the base of an entered epoch lists it, and its marks do not cover it
pub data LearntFrom (run : History) (l : Learnt) : Type 0 where
  FromLog : (c : ℕ) → c < run.columns → (k : Learning) → Among k (last_moment run c).column.learned → k.id ≡ l.id → k.outcome ≡ l.outcome → LearntFrom run l
  FromBase : (made : MadeBase) (j : ℕ) → Among made (last_state run).epochs.made → entered_round run made.epoch ≡ Some j →
      fate_in l.id made.base.list ≡ Some l.outcome → covers made.base.marks l.id ≡ false → LearntFrom run l

abbrev pub LearntComesFrom : Type 0
LearntComesFrom = (run : History) → IsLegal run → (l : Learnt) → Among l (learned run) → LearntFrom run l

-- the run learned this outcome of this attempt
abbrev pub IsLearnt : History → TxnId → Outcome → Type 0
IsLearnt run id outcome = (l : Learnt) × Among l (learned run) × (l.id ≡ id) × (l.outcome ≡ outcome)

abbrev pub LogsAreLearnt : Type 0
LogsAreLearnt =
    (run : History) (c : ℕ) → c < run.columns → (k : Learning) → Among k (last_moment run c).column.learned → IsLearnt run k.id k.outcome

abbrev pub BasesAreLearnt : Type 0
BasesAreLearnt =
    (run : History) → IsLegal run → (made : MadeBase) (j : ℕ) (id : TxnId) (outcome : Outcome) → Among made (last_state run).epochs.made →
    entered_round run made.epoch ≡ Some j → fate_in id made.base.list ≡ Some outcome → covers made.base.marks id ≡ false → IsLearnt run id outcome

-- ---- in which order

-- the place is in the logs of this column
abbrev pub is_in_column : ℕ → Place → Bool
is_in_column c (InLog round column entry) = column == c
is_in_column c (InGlobals round entry) = false

-- what is found, without its place
abbrev pub without_place : Found → TxnId × (Outcome × Option Path)
without_place f = (f.id, (f.outcome, f.own_path))

-- and what a column lists, with the path that its way is
abbrev pub with_way : Learning → TxnId × (Outcome × Option Path)
with_way k = (k.id, (k.outcome, path_of k.way))

-- what is found in a column's logs is what the column lists, in order
abbrev pub ColumnsListInOrder : Type 0
ColumnsListInOrder =
    (run : History) (c : ℕ) → c < run.columns →
    map without_place (filter (λ f. is_in_column c f.place) (all_found run)) ≡ map with_way (last_moment run c).column.learned

-- what is found first of an attempt has a path of its own, or is what a column lists first of it
abbrev pub FirstHasSource : Type 0
FirstHasSource =
    (run : History) (id : TxnId) (f : Found) → find (λ f. same_id f.id id) (all_found run) ≡ Some f →
    (is_some f.own_path ≡ true)
    ⊎ ((c : ℕ) × (c < run.columns) × (k : Learning) × (find (λ k. same_id k.id id) (last_moment run c).column.learned ≡ Some k) × (without_place f ≡ with_way k))
