-- By which line a promise was given, and what it hands in.
use Rattle.std.specs.Prelude.{◌≡◌, ◌<◌, true, false, List, [], ◌∷◌, ◌++◌}
use Rattle.mk_lists.specs.Among.{Among}
use Rattle.mk_words.specs.declared.GlobalEntry.{GlobalEntry}
use Rattle.mk_words.specs.declared.GlobalLine.TheVariants.{Promise}
use Rattle.mk_model.specs.EpochState.{ReplicaState, GivenPromise}
use Rattle.mk_model.specs.GlobalAnswers.{lacks, is_accepted}
use Rattle.mk_model.specs.GlobalSteps.{promise_of}
use Rattle.mk_epoch_laws.specs.WordLaws.{IsAt}
use Rattle.mk_history.specs.declared.RoundLog.{RoundLog}
use Rattle.mk_history.specs.Histories.{History}
use Rattle.mk_history.specs.Legality.{IsLegal}
use Rattle.mk_history.specs.Wholes.{handed_in}
use Rattle.mk_run_laws.specs.Ends.{epochs_after, whole_within}

-- the promise was given in one of these rounds, by a line that was accepted: its replica had a state, whose epoch and base it
-- names, and hands in what the records and marks of all columns had of it then
pub record WasGiven (run : History) (done : List RoundLog) (given : GivenPromise) : Type 0 where
  pub before : List RoundLog
  pub round : RoundLog
  pub later : List RoundLog
  pub split : done ≡ before ++ round ∷ later
  pub by_then : Among given (epochs_after run (before ++ round ∷ [])).promises
  pub lines : List GlobalEntry
  pub entry : GlobalEntry
  pub more : List GlobalEntry
  pub in_round : round.globals ≡ lines ++ entry ∷ more
  pub line : entry.line ≡ Promise given.epoch given.promise.replica
  pub accepted : is_accepted entry.answer ≡ true
  pub replica : ReplicaState
  pub at : IsAt (whole_within run before round lines).epochs given.promise.replica replica
  pub has_state : lacks replica.phase ≡ false
  pub word_below : replica.word < given.epoch
  pub hands : given.promise ≡ promise_of given.promise.replica (handed_in (whole_within run before round lines) (Promise given.epoch given.promise.replica)) replica

abbrev pub PromisesWereGiven : Type 0
PromisesWereGiven =
    (run : History) → IsLegal run → (done rest : List RoundLog) → run.rounds ≡ done ++ rest → (given : GivenPromise) →
    Among given (epochs_after run done).promises → WasGiven run done given
