-- What an accepted commit that was promised rests on.
use Rattle.std.specs.Prelude.{◌≡◌, ◌<◌, ℕ, true, List, ◌++◌, length, Some}
use Rattle.mk_lists.specs.Among.{Among}
use Rattle.mk_txn.specs.declared.Accepted.{Accepted}
use Rattle.mk_txn.specs.declared.TxnId.{TxnId}
use Rattle.mk_txn.specs.Outcomes.{is_commit}
use Rattle.mk_words.specs.declared.Entry.{Entry}
use Rattle.mk_words.specs.Entries.{entry_of}
use Rattle.mk_model.specs.ColumnState.{AttemptState, attempt_of}
use Rattle.mk_column_laws.specs.Facts.{IsSupported}
use Rattle.mk_model.specs.EpochState.{GivenPromise}
use Rattle.mk_history.specs.declared.RoundLog.{RoundLog}
use Rattle.mk_history.specs.Histories.{History}
use Rattle.mk_history.specs.Legality.{IsLegal}
use Rattle.mk_run_laws.specs.Ends.{epochs_after, last_moment}

-- where a promise that was given in the first rounds hands in an accepted commit, a majority voted Ok in those rounds
abbrev pub PromisedSupport : Type 0
PromisedSupport =
    (run : History) → IsLegal run → (done rest : List RoundLog) → run.rounds ≡ done ++ rest → (given : GivenPromise) →
    Among given (epochs_after run done).promises → (c : ℕ) → c < run.columns → (id : TxnId) (a : AttemptState) →
    attempt_of (last_moment run c).column id ≡ Some a → a.epoch ≡ given.promise.adopted → (entry : Entry) (accepted : Accepted) →
    entry_of id given.promise.entries ≡ Some entry → entry.accepted ≡ Some accepted → is_commit accepted.outcome ≡ true →
    IsSupported (last_moment run c) id (length done)
