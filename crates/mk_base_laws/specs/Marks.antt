-- What marks cover is settled, and no entry of a replica is covered by the marks of its base.
use Rattle.std.specs.Prelude.{◌≡◌, ◌<◌, ◌≤◌, ℕ, true, false, List, ◌∷◌, ◌++◌, Some}
use Rattle.mk_lists.specs.Among.{Among}
use Rattle.mk_txn.specs.declared.TxnId.{TxnId}
use Rattle.mk_txn.specs.MarkMaps.{covers}
use Rattle.mk_words.specs.declared.Entry.{Entry}
use Rattle.mk_words.specs.Entries.{entry_of}
use Rattle.mk_words.specs.declared.GlobalEntry.{GlobalEntry}
use Rattle.mk_model.specs.ColumnState.{AttemptState, attempt_of, is_settled, entries_at}
use Rattle.mk_model.specs.EpochState.{ReplicaState, GivenPromise, MadeBase}
use Rattle.mk_epoch_laws.specs.WordLaws.{IsAt}
use Rattle.mk_history.specs.declared.RoundLog.{RoundLog}
use Rattle.mk_history.specs.Histories.{History}
use Rattle.mk_history.specs.Legality.{IsLegal}
use Rattle.mk_history.specs.Wholes.{column_of}
use Rattle.mk_run_laws.specs.RunEvents.{moment_of}
use Rattle.mk_run_laws.specs.Ends.{epochs_after, whole_within}

-- the attempt was there by the end of these rounds, and settled
pub record SettledIn (run : History) (done : List RoundLog) (id : TxnId) : Type 0 where
  pub column : ℕ
  pub in_run : column < run.columns
  pub attempt : AttemptState
  pub found : attempt_of (moment_of run column done).column id ≡ Some attempt
  pub settled : is_settled attempt ≡ true

-- so is what the marks of a promise cover that was given by then
abbrev pub PromisedMarks : Type 0
PromisedMarks =
    (run : History) → IsLegal run → (done rest : List RoundLog) → run.rounds ≡ done ++ rest → (given : GivenPromise) →
    Among given (epochs_after run done).promises → (id : TxnId) → 1 ≤ id.seq → covers given.promise.marks id ≡ true → SettledIn run done id

-- and what the marks of a base cover that was made by then
abbrev pub BaseMarks : Type 0
BaseMarks =
    (run : History) → IsLegal run → (done rest : List RoundLog) → run.rounds ≡ done ++ rest → (made : MadeBase) →
    Among made (epochs_after run done).made → (id : TxnId) → 1 ≤ id.seq → covers made.base.marks id ≡ true → SettledIn run done id

-- before each global line, and at the end of a round: what a replica has an entry of, its base's marks do not cover
abbrev pub NoEntryCovered : Type 0
NoEntryCovered =
    (run : History) → IsLegal run → (done rest : List RoundLog) (round : RoundLog) → run.rounds ≡ done ++ round ∷ rest →
    (lines more : List GlobalEntry) → round.globals ≡ lines ++ more → (c : ℕ) → c < run.columns → (r : ℕ) (id : TxnId) (entry : Entry) →
    entry_of id (entries_at (column_of (whole_within run done round lines) c) r) ≡ Some entry →
    (replica : ReplicaState) → IsAt (whole_within run done round lines).epochs r replica → covers replica.base.marks id ≡ false
