-- An epoch change over which no word fails, and over which the first set of one fails.
use Rattle.std.proofs.Common.{◌≡◌, List, [], ◌∷◌, refl}
use Rattle.mk_txn.specs.declared.Value.TheVariants.{Number}
use Rattle.mk_txn.specs.declared.Outcome.TheVariants.{Commit}
use Rattle.mk_words.specs.declared.Act.TheVariants.{CheckWrite, CommitWrite}
use Rattle.mk_words.specs.declared.Answer.TheVariants.{Okay, Done}
use Rattle.mk_words.specs.declared.GlobalEntry.{GlobalEntry}
use Rattle.mk_words.specs.declared.GlobalLine.TheVariants.{Ask, Promise as PromiseLine, Merge, Enter}
use Rattle.mk_words.specs.declared.GlobalAnswer.TheVariants.{Ok as GlobalOk, Counts, Old, Short, WordFault}
use Rattle.mk_words.specs.declared.Step.{Step}
use Rattle.mk_words.specs.declared.Step.TheVariants.{Begin, Stamp, Validate, Take, Key, Rule}
use Rattle.mk_history.specs.declared.RoundLog.{RoundLog}
use Rattle.mk_history.specs.declared.Path.TheVariants.{Fast}
use Rattle.mk_history.specs.declared.State.TheVariants.{Learned}
use Rattle.mk_history.specs.Histories.{History}
use Rattle.mk_history.specs.Wholes.{first_state}
use Rattle.mk_history.proofs.RunTrials.{disabled, unfinished, turns_journaled, turns_logged, globals_in, given_answers, cells_in, journaled, states}

abbrev log_1_0 : List Step
log_1_0 =
    Begin 1 0 ∷ (
    Stamp (record { client = 1; seq = 1 }) 10 (record { key = 0; value = Number 5 } ∷ []) ∷ (
    Validate (record { client = 1; seq = 1 }) ∷ (
    Take 1 ∷ (
    Key (record { replica = 0; key = 0; act = CheckWrite (record { time = 10; client = 1 }) }) Okay ∷ (
    Take 4 ∷ (
    Take 2 ∷ (
    Key (record { replica = 1; key = 0; act = CheckWrite (record { time = 10; client = 1 }) }) Okay ∷ (
    Take 5 ∷ (
    Take 3 ∷ (
    Key (record { replica = 2; key = 0; act = CheckWrite (record { time = 10; client = 1 }) }) Okay ∷ (
    Take 6 ∷ (
    Rule (record { client = 1; seq = 1 }) ∷ (
    Take 7 ∷ (
    Key (record { replica = 0; key = 0; act = CommitWrite (record { time = 10; client = 1 }) (Number 5) }) Done ∷ (
    Take 8 ∷ (
    Key (record { replica = 1; key = 0; act = CommitWrite (record { time = 10; client = 1 }) (Number 5) }) Done ∷ (
    Take 9 ∷ (
    Key (record { replica = 2; key = 0; act = CommitWrite (record { time = 10; client = 1 }) (Number 5) }) Done ∷ []))))))))))))))))))

abbrev globals_1 : List GlobalEntry
globals_1 = record { line = Ask 1; answer = GlobalOk } ∷ (record { line = PromiseLine 1 1; answer = GlobalOk } ∷ (record { line = PromiseLine 1 0; answer = GlobalOk } ∷ (record { line = Merge 1; answer = Counts 1 0 } ∷ (record { line = PromiseLine 1 1; answer = Old 1 } ∷ (record { line = Merge 1; answer = Counts 1 0 } ∷ (record { line = Enter 1; answer = Short 0 } ∷ []))))))

abbrev round_1 : RoundLog
round_1 = record { logs = log_1_0 ∷ []; journals = ((record { seat = 0; act = CheckWrite (record { time = 10; client = 1 }); answer = Okay } ∷ (record { seat = 0; act = CommitWrite (record { time = 10; client = 1 }) (Number 5); answer = Done } ∷ [])) ∷ []) ∷ (((record { seat = 0; act = CheckWrite (record { time = 10; client = 1 }); answer = Okay } ∷ (record { seat = 0; act = CommitWrite (record { time = 10; client = 1 }) (Number 5); answer = Done } ∷ [])) ∷ []) ∷ (((record { seat = 0; act = CheckWrite (record { time = 10; client = 1 }); answer = Okay } ∷ (record { seat = 0; act = CommitWrite (record { time = 10; client = 1 }) (Number 5); answer = Done } ∷ [])) ∷ []) ∷ [])); globals = globals_1 }

abbrev pub run : History
run =
    record {
      version = 1;
      faults = 1;
      columns = 1;
      client_columns = 0 ∷ [];
      client_names = (97 ∷ []) ∷ [];
      key_names = (120 ∷ []) ∷ [];
      rounds = round_1 ∷ [];
    }

pub each_enabled : disabled run ≡ []
each_enabled = refl

pub all_finished : unfinished run ≡ []
all_finished = refl

pub acts_agree : turns_journaled run ≡ turns_logged run
acts_agree = refl

pub globals_answer : globals_in run (first_state run) run.rounds ≡ given_answers run
globals_answer = refl

pub cells_answer : cells_in run 3 1 (first_state run) run.rounds ≡ journaled 3 1 run.rounds
cells_answer = refl

pub attempts_end : states run ≡ (record { client = 1; seq = 1 }, Learned Commit Fast) ∷ []
attempts_end = refl

-- ---- the first set of replica 1's word fails

abbrev faulty_globals : List GlobalEntry
faulty_globals =
    record { line = Ask 1; answer = GlobalOk } ∷ (record { line = PromiseLine 1 1; answer = WordFault }
    ∷ (record { line = PromiseLine 1 0; answer = GlobalOk } ∷ (record { line = Merge 1; answer = Short 1 }
    ∷ (record { line = PromiseLine 1 1; answer = GlobalOk } ∷ (record { line = Merge 1; answer = Counts 1 0 } ∷ (record { line = Enter 1; answer = Short 0 } ∷ []))))))

abbrev faulty : History
faulty = record run { rounds = record round_1 { globals = faulty_globals } ∷ [] }

pub faulty_enabled : disabled faulty ≡ []
faulty_enabled = refl

pub faulty_finished : unfinished faulty ≡ []
faulty_finished = refl

pub faulty_globals_answer : globals_in faulty (first_state faulty) faulty.rounds ≡ given_answers faulty
faulty_globals_answer = refl

pub faulty_attempts_end : states faulty ≡ (record { client = 1; seq = 1 }, Learned Commit Fast) ∷ []
faulty_attempts_end = refl
