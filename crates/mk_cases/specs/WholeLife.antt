-- A legal run with an epoch change, a loss of memory and a forgotten outcome, and that it is safe. Client 1 writes two keys one after the other, and the
-- epoch changes without replica 2; a takeover then asks for the first attempt, of which only is known that its client has done with it; replica 2 loses its
-- memory and is admitted again, and client 2 reads there.
use Rattle.std.specs.Prelude.{◌≡◌, ℕ, ◌+◌, List, [], ◌∷◌, ◌++◌, Some, slice_get, option_map}
use Rattle.mk_txn.specs.declared.TxnId.{TxnId}
use Rattle.mk_txn.specs.declared.Stamp.{Stamp as StampType}
use Rattle.mk_txn.specs.declared.Value.TheVariants.{Number}
use Rattle.mk_txn.specs.declared.Known.TheVariants.{Forgotten}
use Rattle.mk_txn.specs.Transactions.{Transaction}
use Rattle.mk_words.specs.declared.Act.{Act}
use Rattle.mk_words.specs.declared.Act.TheVariants.{Get, CheckRead, CheckWrite, CommitRead, CommitWrite}
use Rattle.mk_words.specs.declared.Answer.{Answer}
use Rattle.mk_words.specs.declared.Answer.TheVariants.{Version, Okay, Done}
use Rattle.mk_words.specs.declared.JournalEntry.{JournalEntry}
use Rattle.mk_words.specs.declared.Phase.TheVariants.{Serving}
use Rattle.mk_words.specs.declared.GlobalLine.TheVariants.{Wipe, Ask, Promise, Merge, Adopt, Enter}
use Rattle.mk_words.specs.declared.GlobalEntry.{GlobalEntry}
use Rattle.mk_words.specs.declared.GlobalAnswer.TheVariants.{Counts, Entered}
use Rattle.mk_words.specs.declared.Step.{Step}
use Rattle.mk_words.specs.declared.Step.TheVariants.{Begin, Read, Stamp, Validate, Take, Rule, Takeover}
use Rattle.mk_words.specs.Bases.{known}
use Rattle.mk_model.specs.EpochState.{EpochState, base_for}
use Rattle.mk_history.specs.declared.RoundLog.{RoundLog}
use Rattle.mk_history.specs.Histories.{History}
use Rattle.mk_history.specs.Shape.{HasShape}
use Rattle.mk_history.specs.Legality.{IsLegal}
use Rattle.mk_history.specs.Wholes.{last_state}
use Rattle.mk_history.specs.Learning.{commits}
use Rattle.mk_history.specs.Safety.{IsSafe}
use Rattle.mk_cases.specs.Writing.{key_step, entry, answered, done}

-- the first attempt of a client
abbrev pub first_of : ℕ → TxnId
first_of client = record { client = client; seq = 1 }

-- the second attempt of client 1
abbrev pub second : TxnId
second = record { client = 1; seq = 2 }

-- the stamp of each
abbrev pub stamp_at : ℕ → ℕ → StampType
stamp_at time client = record { time = time; client = client }

-- a transaction's messages, from this number on, to the three replicas, which each check and answer
abbrev pub validated : ℕ → ℕ → Act → List Step
validated message key check =
    Take message ∷ (key_step 0 key check Okay ∷ (Take (message + 3)
    ∷ (Take (message + 1) ∷ (key_step 1 key check Okay ∷ (Take (message + 4)
    ∷ (Take (message + 2) ∷ (key_step 2 key check Okay ∷ (Take (message + 5) ∷ []))))))))

-- the decision, from this number on, which each replica carries out
abbrev pub finished : ℕ → ℕ → Act → List Step
finished message key commit =
    Take message ∷ (key_step 0 key commit Done ∷ (Take (message + 1) ∷ (key_step 1 key commit Done ∷ (Take (message + 2) ∷ (key_step 2 key commit Done ∷ [])))))

-- an attempt of client 1 that writes a key
abbrev pub written : TxnId → ℕ → ℕ → ℕ → ℕ → List Step
written id time key value message =
    let ts = stamp_at time 1 in
    (Begin 1 0 ∷ (Stamp id time (record { key = key; value = Number value } ∷ []) ∷ (Validate id ∷ [])))
    ++ (validated message key (CheckWrite ts) ++ (Rule id ∷ finished (message + 6) key (CommitWrite ts (Number value))))

-- its two attempts
abbrev pub first_log : List Step
first_log = written (first_of 1) 10 0 5 1 ++ written second 20 1 6 10

-- the takeover hears from replicas 0 and 1 that the outcome is forgotten
abbrev pub second_log : List Step
second_log = Takeover (first_of 1) 2 ∷ (Take 19 ∷ (Take 22 ∷ (Take 20 ∷ (Take 23 ∷ []))))

-- the read of client 2
abbrev pub check_read : Act
check_read = CheckRead (stamp_at 30 2) (stamp_at 10 1)

-- what it got
abbrev pub got : Answer
got = Version (stamp_at 10 1) (Number 5)

-- client 2 reads at replica 2
abbrev pub third_log : List Step
third_log =
    (Begin 2 2 ∷ (Read (first_of 2) 0 ∷ (key_step 2 0 Get got ∷ (Stamp (first_of 2) 30 [] ∷ (Validate (first_of 2) ∷ [])))))
    ++ (validated 24 0 check_read ++ (Rule (first_of 2) ∷ finished 30 0 (CommitRead (stamp_at 30 2))))

-- the journal of a key that was written so
abbrev pub journal_of_write : ℕ → ℕ → List JournalEntry
journal_of_write time value = entry (CheckWrite (stamp_at time 1)) Okay ∷ (entry (CommitWrite (stamp_at time 1) (Number value)) Done ∷ [])

-- the same at every replica
abbrev pub first_journals : List (List JournalEntry)
first_journals = journal_of_write 10 5 ∷ (journal_of_write 20 6 ∷ [])

-- the journals of the third round, behind this
abbrev pub third_journals : List JournalEntry → List (List JournalEntry)
third_journals before = (before ++ (entry check_read Okay ∷ (entry (CommitRead (stamp_at 30 2)) Done ∷ []))) ∷ ([] ∷ [])

-- the epoch change without replica 2
abbrev pub first_changes : List GlobalEntry
first_changes =
    done (Ask 1) ∷ (done (Promise 1 1) ∷ (done (Promise 1 0) ∷ (answered (Merge 1) (Counts 1 0)
    ∷ (done (Adopt 1 0) ∷ (done (Adopt 1 1) ∷ (answered (Enter 1) (Entered 2) ∷ []))))))

-- the loss, and how replica 2 is admitted again
abbrev pub second_changes : List GlobalEntry
second_changes = done (Wipe 2) ∷ (done (Adopt 1 2) ∷ (answered (Enter 1) (Entered 3) ∷ []))

-- client 1 works, and the epoch changes
abbrev pub first_round : RoundLog
first_round = record { logs = first_log ∷ []; journals = first_journals ∷ (first_journals ∷ (first_journals ∷ [])); globals = first_changes }

-- the takeover, and the loss
abbrev pub second_round : RoundLog
second_round = record { logs = second_log ∷ []; journals = ([] ∷ ([] ∷ [])) ∷ (([] ∷ ([] ∷ [])) ∷ (([] ∷ ([] ∷ [])) ∷ [])); globals = second_changes }

-- client 2 works
abbrev pub third_round : RoundLog
third_round =
    record { logs = third_log ∷ []; journals = third_journals [] ∷ (third_journals [] ∷ (third_journals (entry Get got ∷ []) ∷ [])); globals = [] }

-- the run
abbrev pub life : History
life =
    record {
      version = 2;
      faults = 1;
      columns = 1;
      client_columns = 0 ∷ (0 ∷ []);
      client_names = (97 ∷ []) ∷ ((98 ∷ []) ∷ []);
      key_names = (120 ∷ []) ∷ ((121 ∷ []) ∷ []);
      rounds = first_round ∷ (second_round ∷ (third_round ∷ []));
    }

-- the epoch machine at its end
abbrev pub epochs : EpochState
epochs = let state = last_state life in state.epochs

-- what the run commits
abbrev pub committed : List Transaction
committed =
    record { id = first_of 1; stamp = stamp_at 10 1; reads = []; writes = record { key = 0; value = Number 5 } ∷ [] }
    ∷ (record { id = second; stamp = stamp_at 20 1; reads = []; writes = record { key = 1; value = Number 6 } ∷ [] }
    ∷ (record { id = first_of 2; stamp = stamp_at 30 2; reads = record { key = 0; version = stamp_at 10 1; value = Number 5 } ∷ []; writes = [] } ∷ []))

-- the run has a shape and is legal, and so it is safe; the outcome of the first attempt is forgotten in base 1, and replica 2
-- serves epoch 1 after its loss
pub record IsWholeLife : Type 0 where
  pub shaped : HasShape life
  pub legal : IsLegal life
  pub safe : IsSafe life
  pub forgotten : option_map (λ base. known base (first_of 1)) (base_for 1 epochs) ≡ Some Forgotten
  pub serves : option_map (λ replica. replica.phase) (slice_get epochs.replicas 2) ≡ Some Serving
  pub its_epoch : option_map (λ replica. replica.adopted) (slice_get epochs.replicas 2) ≡ Some 1
  pub all_commits : commits life ≡ committed
