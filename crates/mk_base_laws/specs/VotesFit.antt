-- Ok votes fit the base of their epoch.
use Rattle.std.specs.Prelude.{◌≡◌, ◌<◌, ℕ, true, List, ◌++◌, Some}
use Rattle.mk_txn.specs.declared.TxnId.{TxnId}
use Rattle.mk_words.specs.Bases.{BaseState}
use Rattle.mk_words.specs.Rebuilding.{fits_base}
use Rattle.mk_column_laws.specs.Moments.{PastEntry}
use Rattle.mk_model.specs.EpochState.{base_for}
use Rattle.mk_history.specs.declared.RoundLog.{RoundLog}
use Rattle.mk_history.specs.Histories.{History}
use Rattle.mk_history.specs.Shape.{HasShape}
use Rattle.mk_history.specs.Legality.{IsLegal}
use Rattle.mk_run_laws.specs.RunEvents.{moment_of}
use Rattle.mk_run_laws.specs.Ends.{epochs_after}
use Rattle.mk_run_laws.specs.Voting.{VotedOk}

-- where a replica voted Ok for an attempt, its reads and writes fit the cells that the base of its epoch makes
abbrev pub VotesFitBase : Type 0
VotesFitBase =
    (run : History) → HasShape run → IsLegal run → (done later : List RoundLog) → run.rounds ≡ done ++ later →
    (c r epoch : ℕ) → c < run.columns → (id : TxnId) (entry : PastEntry) (round : ℕ) (base : BaseState) →
    VotedOk (moment_of run c done) r epoch id entry round → base_for epoch (epochs_after run done) ≡ Some base → fits_base base entry.txn ≡ true
