-- Deleted and written anew: an absent value is read and replaced as any other.
use Rattle.std.proofs.Common.{◌≡◌, ℕ, List, [], ◌∷◌, refl}
use Rattle.mk_txn.specs.declared.TxnId.{TxnId}
use Rattle.mk_txn.specs.declared.Stamp.{Stamp as StampType}
use Rattle.mk_txn.specs.declared.Value.TheVariants.{Number, Absent}
use Rattle.mk_txn.specs.declared.Outcome.TheVariants.{Commit}
use Rattle.mk_txn.specs.LatestWrites.{first_version, latest_write}
use Rattle.mk_words.specs.declared.Act.{Act}
use Rattle.mk_words.specs.declared.Act.TheVariants.{Get, CheckRead, CheckWrite, CommitRead, CommitWrite}
use Rattle.mk_words.specs.declared.Answer.{Answer}
use Rattle.mk_words.specs.declared.Answer.TheVariants.{Version, Okay, Done}
use Rattle.mk_words.specs.declared.JournalEntry.{JournalEntry}
use Rattle.mk_words.specs.declared.KeyCall.{KeyCall}
use Rattle.mk_words.specs.declared.Step.{Step}
use Rattle.mk_words.specs.declared.Step.TheVariants.{Begin, Read as ReadStep, Stamp, Validate, Take, Key, Rule}
use Rattle.mk_history.specs.declared.Path.TheVariants.{Fast}
use Rattle.mk_history.specs.declared.State.TheVariants.{Learned}
use Rattle.mk_history.specs.Histories.{History}
use Rattle.mk_history.specs.Wholes.{first_state}
use Rattle.mk_history.specs.Learning.{commits}
use Rattle.mk_history.proofs.RunTrials.{disabled, unfinished, turns_journaled, turns_logged, cells_in, journaled, states}

abbrev id : ℕ → TxnId
id seq = record { client = 1; seq = seq }

abbrev at : ℕ → ℕ → StampType
at time client = record { time = time; client = client }

abbrev call : ℕ → Act → KeyCall
call r act = record { replica = r; key = 0; act = act }

abbrev turn : Act → Answer → JournalEntry
turn act answer = record { seat = 0; act = act; answer = answer }

abbrev log : List Step
log =
    Begin 1 0 ∷ (
    Stamp (id 1) 10 (record { key = 0; value = Number 5 } ∷ []) ∷ (
    Validate (id 1) ∷ (
    Take 1 ∷ (
    Key (call 0 (CheckWrite (at 10 1))) Okay ∷ (
    Take 4 ∷ (
    Take 2 ∷ (
    Key (call 1 (CheckWrite (at 10 1))) Okay ∷ (
    Take 5 ∷ (
    Take 3 ∷ (
    Key (call 2 (CheckWrite (at 10 1))) Okay ∷ (
    Take 6 ∷ (
    Rule (id 1) ∷ (
    Take 7 ∷ (
    Key (call 0 (CommitWrite (at 10 1) (Number 5))) Done ∷ (
    Take 8 ∷ (
    Key (call 1 (CommitWrite (at 10 1) (Number 5))) Done ∷ (
    Take 9 ∷ (
    Key (call 2 (CommitWrite (at 10 1) (Number 5))) Done ∷ (
    Begin 1 0 ∷ (
    ReadStep (id 2) 0 ∷ (
    Key (call 0 Get) (Version (at 10 1) (Number 5)) ∷ (
    Stamp (id 2) 20 (record { key = 0; value = Absent } ∷ []) ∷ (
    Validate (id 2) ∷ (
    Take 10 ∷ (
    Key (call 0 (CheckRead (at 20 1) (at 10 1))) Okay ∷ (
    Key (call 0 (CheckWrite (at 20 1))) Okay ∷ (
    Take 13 ∷ (
    Take 11 ∷ (
    Key (call 1 (CheckRead (at 20 1) (at 10 1))) Okay ∷ (
    Key (call 1 (CheckWrite (at 20 1))) Okay ∷ (
    Take 14 ∷ (
    Take 12 ∷ (
    Key (call 2 (CheckRead (at 20 1) (at 10 1))) Okay ∷ (
    Key (call 2 (CheckWrite (at 20 1))) Okay ∷ (
    Take 15 ∷ (
    Rule (id 2) ∷ (
    Take 16 ∷ (
    Key (call 0 (CommitRead (at 20 1))) Done ∷ (
    Key (call 0 (CommitWrite (at 20 1) Absent)) Done ∷ (
    Take 17 ∷ (
    Key (call 1 (CommitRead (at 20 1))) Done ∷ (
    Key (call 1 (CommitWrite (at 20 1) Absent)) Done ∷ (
    Take 18 ∷ (
    Key (call 2 (CommitRead (at 20 1))) Done ∷ (
    Key (call 2 (CommitWrite (at 20 1) Absent)) Done ∷ (
    Begin 1 0 ∷ (
    ReadStep (id 3) 0 ∷ (
    Key (call 0 Get) (Version (at 20 1) Absent) ∷ (
    Stamp (id 3) 30 (record { key = 0; value = Number 1 } ∷ []) ∷ (
    Validate (id 3) ∷ (
    Take 19 ∷ (
    Key (call 0 (CheckRead (at 30 1) (at 20 1))) Okay ∷ (
    Key (call 0 (CheckWrite (at 30 1))) Okay ∷ (
    Take 22 ∷ (
    Take 20 ∷ (
    Key (call 1 (CheckRead (at 30 1) (at 20 1))) Okay ∷ (
    Key (call 1 (CheckWrite (at 30 1))) Okay ∷ (
    Take 23 ∷ (
    Take 21 ∷ (
    Key (call 2 (CheckRead (at 30 1) (at 20 1))) Okay ∷ (
    Key (call 2 (CheckWrite (at 30 1))) Okay ∷ (
    Take 24 ∷ (
    Rule (id 3) ∷ (
    Take 25 ∷ (
    Key (call 0 (CommitRead (at 30 1))) Done ∷ (
    Key (call 0 (CommitWrite (at 30 1) (Number 1))) Done ∷ (
    Take 26 ∷ (
    Key (call 1 (CommitRead (at 30 1))) Done ∷ (
    Key (call 1 (CommitWrite (at 30 1) (Number 1))) Done ∷ (
    Take 27 ∷ (
    Key (call 2 (CommitRead (at 30 1))) Done ∷ (
    Key (call 2 (CommitWrite (at 30 1) (Number 1))) Done ∷ []))))))))))))))))))))))))))))))))))))))))))))))))))))))))))))))))))))))))

-- the first replica is read too
abbrev first_journal : List JournalEntry
first_journal =
    turn (CheckWrite (at 10 1)) Okay ∷ (
    turn (CommitWrite (at 10 1) (Number 5)) Done ∷ (
    turn Get (Version (at 10 1) (Number 5)) ∷ (
    turn (CheckRead (at 20 1) (at 10 1)) Okay ∷ (
    turn (CheckWrite (at 20 1)) Okay ∷ (
    turn (CommitRead (at 20 1)) Done ∷ (
    turn (CommitWrite (at 20 1) Absent) Done ∷ (
    turn Get (Version (at 20 1) Absent) ∷ (
    turn (CheckRead (at 30 1) (at 20 1)) Okay ∷ (
    turn (CheckWrite (at 30 1)) Okay ∷ (
    turn (CommitRead (at 30 1)) Done ∷ (
    turn (CommitWrite (at 30 1) (Number 1)) Done ∷ [])))))))))))

abbrev journal : List JournalEntry
journal =
    turn (CheckWrite (at 10 1)) Okay ∷ (
    turn (CommitWrite (at 10 1) (Number 5)) Done ∷ (
    turn (CheckRead (at 20 1) (at 10 1)) Okay ∷ (
    turn (CheckWrite (at 20 1)) Okay ∷ (
    turn (CommitRead (at 20 1)) Done ∷ (
    turn (CommitWrite (at 20 1) Absent) Done ∷ (
    turn (CheckRead (at 30 1) (at 20 1)) Okay ∷ (
    turn (CheckWrite (at 30 1)) Okay ∷ (
    turn (CommitRead (at 30 1)) Done ∷ (
    turn (CommitWrite (at 30 1) (Number 1)) Done ∷ [])))))))))

abbrev pub run : History
run =
    record {
      version = 2;
      faults = 1;
      columns = 1;
      client_columns = 0 ∷ [];
      client_names = (97 ∷ []) ∷ [];
      key_names = (120 ∷ []) ∷ [];
      rounds = record { logs = log ∷ []; journals = (first_journal ∷ []) ∷ ((journal ∷ []) ∷ ((journal ∷ []) ∷ [])); globals = [] } ∷ [];
    }

pub each_enabled : disabled run ≡ []
each_enabled = refl

pub all_finished : unfinished run ≡ []
all_finished = refl

pub acts_agree : turns_journaled run ≡ turns_logged run
acts_agree = refl

pub cells_answer : cells_in run 3 1 (first_state run) run.rounds ≡ journaled 3 1 run.rounds
cells_answer = refl

pub attempts_end : states run ≡ (id 1, Learned Commit Fast) ∷ ((id 2, Learned Commit Fast) ∷ ((id 3, Learned Commit Fast) ∷ []))
attempts_end = refl

pub last_value : latest_write 0 first_version (commits run) ≡ record { version = at 30 1; value = Number 1 }
last_value = refl
