-- A legal run in which a base that was made has two commits that clash. It is not in force.
use Rattle.std.specs.Prelude.{◌≡◌, true, List, [], ◌∷◌, Some}
use Rattle.mk_txn.specs.declared.TxnId.{TxnId}
use Rattle.mk_txn.specs.declared.Stamp.{Stamp as StampType}
use Rattle.mk_txn.specs.Stamps.{zero_stamp}
use Rattle.mk_txn.specs.declared.Value.TheVariants.{Number}
use Rattle.mk_txn.specs.declared.Outcome.TheVariants.{Commit, Abort}
use Rattle.mk_txn.specs.declared.Cause.TheVariants.{Epoch as ByEpoch}
use Rattle.mk_txn.specs.Transactions.{Transaction}
use Rattle.mk_txn.specs.Clashes.{conflict}
use Rattle.mk_words.specs.declared.Act.{Act}
use Rattle.mk_words.specs.declared.Act.TheVariants.{Get, CheckRead, CheckWrite, ReleaseWrite}
use Rattle.mk_words.specs.declared.Answer.{Answer}
use Rattle.mk_words.specs.declared.Answer.TheVariants.{Version, Okay, Done}
use Rattle.mk_words.specs.declared.JournalEntry.{JournalEntry}
use Rattle.mk_words.specs.declared.GlobalLine.TheVariants.{Ask, Promise, Merge, Adopt, Enter}
use Rattle.mk_words.specs.declared.GlobalEntry.{GlobalEntry}
use Rattle.mk_words.specs.declared.GlobalAnswer.TheVariants.{Counts, Entered}
use Rattle.mk_words.specs.declared.Step.{Step}
use Rattle.mk_words.specs.declared.Step.TheVariants.{Begin, Read, Stamp, Validate, Take, Rule, Takeover, Pick}
use Rattle.mk_words.specs.Bases.{BaseState, fated}
use Rattle.mk_model.specs.EpochState.{EpochState, base_for}
use Rattle.mk_model.specs.Force.{InForce}
use Rattle.mk_epoch_laws.specs.PathLaws.{outcome_in}
use Rattle.mk_history.specs.declared.RoundLog.{RoundLog}
use Rattle.mk_history.specs.Histories.{History}
use Rattle.mk_history.specs.Shape.{HasShape}
use Rattle.mk_history.specs.Legality.{IsLegal}
use Rattle.mk_history.specs.Wholes.{last_state}
use Rattle.mk_cases.specs.Writing.{key_step, entry, answered, done}

-- the attempt that writes the one key
abbrev pub writer : TxnId
writer = record { client = 1; seq = 1 }

-- the attempt that reads it
abbrev pub reader : TxnId
reader = record { client = 2; seq = 1 }

-- the writer's stamp
abbrev pub written_at : StampType
written_at = record { time = 1; client = 1 }

-- the reader's, which is later
abbrev pub read_at : StampType
read_at = record { time = 2; client = 2 }

-- what the writer writes
abbrev pub written : Transaction
written = record { id = writer; stamp = written_at; reads = []; writes = record { key = 0; value = Number 5 } ∷ [] }

-- what the reader reads: what the key holds at first
abbrev pub read : Transaction
read = record { id = reader; stamp = read_at; reads = record { key = 0; version = zero_stamp; value = Number 0 } ∷ []; writes = [] }

-- the check of the write
abbrev pub check_write : Act
check_write = CheckWrite written_at

-- the check of the read
abbrev pub check_read : Act
check_read = CheckRead read_at zero_stamp

-- what is read
abbrev pub got : Answer
got = Version zero_stamp (Number 0)

-- replicas 0, 3 and 4 vote Ok for the writer, and a majority's Accept is taken at 4; 1 and 2 vote Ok for the reader
abbrev pub first_log : List Step
first_log =
    Begin 1 0 ∷ (Stamp writer 1 (record { key = 0; value = Number 5 } ∷ []) ∷ (Validate writer
    ∷ (Begin 2 1 ∷ (Read reader 0 ∷ (key_step 1 0 Get got ∷ (Stamp reader 2 [] ∷ (Validate reader
    ∷ (Take 1 ∷ (key_step 0 0 check_write Okay ∷ (Take 4 ∷ (key_step 3 0 check_write Okay ∷ (Take 5 ∷ (key_step 4 0 check_write Okay
    ∷ (Take 11 ∷ (Take 12 ∷ (Take 13 ∷ (Rule writer ∷ (Take 18
    ∷ (Take 7 ∷ (key_step 1 0 check_read Okay ∷ (Take 8 ∷ (key_step 2 0 check_read Okay
    ∷ (Take 20 ∷ (Take 21 ∷ []))))))))))))))))))))))))

-- base 10 has heard of one vote for the writer and of two for the reader; the promises for base 9 of replicas 0 and 1 stand
abbrev pub first_changes : List GlobalEntry
first_changes =
    done (Ask 9) ∷ (done (Promise 9 0) ∷ (done (Promise 9 1)
    ∷ (done (Ask 10) ∷ (done (Promise 10 0) ∷ (done (Promise 10 1) ∷ (done (Promise 10 2) ∷ (answered (Merge 10) (Counts 1 1)
    ∷ (done (Adopt 10 0) ∷ (done (Adopt 10 1) ∷ (done (Adopt 10 2) ∷ (answered (Enter 10) (Entered 3) ∷ [])))))))))))

-- what base 10 teaches makes replica 3 give up the write; so it votes Ok for the reader, and the Accept of that is taken at 4 too
abbrev pub second_log : List Step
second_log =
    Takeover writer 3 ∷ (Take 22 ∷ (Take 27 ∷ (Pick writer 3 ∷ (Take 31 ∷ (key_step 3 0 (ReleaseWrite written_at) Done
    ∷ (Take 9 ∷ (key_step 3 0 check_read Okay ∷ (Take 33 ∷ (Rule reader ∷ (Take 38 ∷ []))))))))))

-- base 9 is made, of what replica 4 has accepted
abbrev pub second_changes : List GlobalEntry
second_changes = done (Promise 9 4) ∷ (answered (Merge 9) (Counts 2 0) ∷ [])

-- a journal for each replica, of the one key
abbrev pub journals_of : List JournalEntry → List JournalEntry → List JournalEntry → List JournalEntry → List JournalEntry → List (List (List JournalEntry))
journals_of zeroth first second third fourth =
    (zeroth ∷ []) ∷ ((first ∷ []) ∷ ((second ∷ []) ∷ ((third ∷ []) ∷ ((fourth ∷ []) ∷ []))))

-- until the epoch is entered
abbrev pub first_round : RoundLog
first_round =
    record {
      logs = first_log ∷ [];
      journals =
          journals_of (entry check_write Okay ∷ []) (entry Get got ∷ (entry check_read Okay ∷ [])) (entry check_read Okay ∷ []) (entry check_write Okay ∷ [])
          (entry check_write Okay ∷ []);
      globals = first_changes;
    }

-- and then
abbrev pub second_round : RoundLog
second_round =
    record {
      logs = second_log ∷ [];
      journals = journals_of [] [] [] (entry (ReleaseWrite written_at) Done ∷ (entry check_read Okay ∷ [])) [];
      globals = second_changes;
    }

-- the run
abbrev pub clashing : History
clashing =
    record {
      version = 1;
      faults = 2;
      columns = 1;
      client_columns = 0 ∷ (0 ∷ []);
      client_names = (97 ∷ []) ∷ ((98 ∷ []) ∷ []);
      key_names = (120 ∷ []) ∷ [];
      rounds = first_round ∷ (second_round ∷ []);
    }

-- the epoch machine at its end
abbrev pub epochs : EpochState
epochs = let state = last_state clashing in state.epochs

-- the base that is made last
abbrev pub last_base : BaseState
last_base = record { list = fated written Commit ∷ (fated read Commit ∷ []); marks = [] }

-- base 9 commits both, which clash, and is not in force; base 10, which is, aborts the writer
pub record CommitsClash : Type 0 where
  pub shaped : HasShape clashing
  pub legal : IsLegal clashing
  pub made : base_for 9 epochs ≡ Some last_base
  pub clash : conflict read written ≡ true
  pub not_in_force : ¬ (InForce epochs 9)
  pub in_force : InForce epochs 10
  pub writer_aborts : outcome_in epochs 10 writer ≡ Some (Abort (ByEpoch 10))
  pub reader_commits : outcome_in epochs 10 reader ≡ Some Commit
