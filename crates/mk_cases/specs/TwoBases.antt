-- A legal run in which a base that is in force and a later one say different things of an attempt that is older than both.
use Rattle.std.specs.Prelude.{◌≡◌, List, [], ◌∷◌, Some}
use Rattle.mk_txn.specs.declared.TxnId.{TxnId}
use Rattle.mk_txn.specs.declared.Stamp.{Stamp as StampType}
use Rattle.mk_txn.specs.declared.Value.TheVariants.{Number}
use Rattle.mk_txn.specs.declared.Outcome.TheVariants.{Commit, Abort}
use Rattle.mk_txn.specs.declared.Cause.TheVariants.{Epoch as ByEpoch}
use Rattle.mk_words.specs.declared.Act.{Act}
use Rattle.mk_words.specs.declared.Act.TheVariants.{CheckWrite}
use Rattle.mk_words.specs.declared.Answer.TheVariants.{Okay}
use Rattle.mk_words.specs.declared.JournalEntry.{JournalEntry}
use Rattle.mk_words.specs.declared.GlobalLine.TheVariants.{Ask, Promise, Merge, Adopt}
use Rattle.mk_words.specs.declared.GlobalEntry.{GlobalEntry}
use Rattle.mk_words.specs.declared.GlobalAnswer.TheVariants.{Counts}
use Rattle.mk_words.specs.declared.Step.{Step}
use Rattle.mk_words.specs.declared.Step.TheVariants.{Begin, Stamp, Validate, Take}
use Rattle.mk_model.specs.EpochState.{EpochState}
use Rattle.mk_model.specs.Force.{InForce, source_of}
use Rattle.mk_epoch_laws.specs.PathLaws.{outcome_in}
use Rattle.mk_history.specs.declared.RoundLog.{RoundLog}
use Rattle.mk_history.specs.Histories.{History}
use Rattle.mk_history.specs.Shape.{HasShape}
use Rattle.mk_history.specs.Legality.{IsLegal}
use Rattle.mk_history.specs.Wholes.{last_state}
use Rattle.mk_cases.specs.Writing.{key_step, entry, answered, done}

-- the attempt, which writes the one key
abbrev pub writer : TxnId
writer = record { client = 1; seq = 1 }

-- its check
abbrev pub check : Act
check = let ts : StampType = record { time = 10; client = 1 } in CheckWrite ts

-- replicas 0 and 1 vote Ok, and nobody hears of it
abbrev pub log : List Step
log =
    Begin 1 0 ∷ (Stamp writer 10 (record { key = 0; value = Number 5 } ∷ []) ∷ (Validate writer
    ∷ (Take 1 ∷ (key_step 0 0 check Okay ∷ (Take 2 ∷ (key_step 1 0 check Okay ∷ []))))))

-- the check in a journal
abbrev pub checked : List JournalEntry
checked = entry check Okay ∷ []

-- base 1 is adopted by one replica alone; base 2 is made without having heard of it, and base 3 is built on base 1
abbrev pub changes : List GlobalEntry
changes =
    done (Ask 1) ∷ (done (Promise 1 0) ∷ (done (Promise 1 1) ∷ (answered (Merge 1) (Counts 1 0) ∷ (done (Adopt 1 1)
    ∷ (done (Ask 2) ∷ (done (Promise 2 0) ∷ (done (Promise 2 2) ∷ (answered (Merge 2) (Counts 0 1)
    ∷ (done (Ask 3) ∷ (done (Promise 3 0) ∷ (done (Promise 3 1) ∷ (answered (Merge 3) (Counts 1 0) ∷ (done (Adopt 3 0) ∷ (done (Adopt 3 1) ∷ []))))))))))))))

-- the run's round
abbrev pub round : RoundLog
round = record { logs = log ∷ []; journals = (checked ∷ []) ∷ ((checked ∷ []) ∷ (([] ∷ []) ∷ [])); globals = changes }

-- the run
abbrev pub two_bases : History
two_bases =
    record {
      version = 1;
      faults = 1;
      columns = 1;
      client_columns = 0 ∷ [];
      client_names = (97 ∷ []) ∷ [];
      key_names = (120 ∷ []) ∷ [];
      rounds = round ∷ [];
    }

-- the epoch machine at its end
abbrev pub epochs : EpochState
epochs = let state = last_state two_bases in state.epochs

-- bases 1 and 3 commit the attempt and are in force; base 2, which is above epoch 1, aborts it
pub record TwoBasesDiffer : Type 0 where
  pub shaped : HasShape two_bases
  pub legal : IsLegal two_bases
  pub first : outcome_in epochs 1 writer ≡ Some Commit
  pub second : outcome_in epochs 2 writer ≡ Some (Abort (ByEpoch 2))
  pub third : outcome_in epochs 3 writer ≡ Some Commit
  pub built : source_of epochs 3 ≡ 1
  pub first_in_force : InForce epochs 1
  pub third_in_force : InForce epochs 3
