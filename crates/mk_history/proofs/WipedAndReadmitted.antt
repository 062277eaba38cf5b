-- Wipe, readmission, replay.
use Rattle.std.proofs.Common.{◌≡◌, List, [], ◌∷◌, refl}
use Rattle.mk_txn.specs.declared.Value.TheVariants.{Number}
use Rattle.mk_txn.specs.declared.Outcome.TheVariants.{Commit}
use Rattle.mk_words.specs.declared.Act.TheVariants.{Get, CheckRead, CheckWrite, CommitRead, CommitWrite}
use Rattle.mk_words.specs.declared.Answer.TheVariants.{Version, Okay, Done}
use Rattle.mk_words.specs.declared.GlobalEntry.{GlobalEntry}
use Rattle.mk_words.specs.declared.GlobalLine.TheVariants.{Wipe, Ask, Promise as PromiseLine, Merge, Adopt, Enter}
use Rattle.mk_words.specs.declared.GlobalAnswer.TheVariants.{Ok as GlobalOk, Counts, Entered, Lacking, Old}
use Rattle.mk_words.specs.declared.Step.{Step}
use Rattle.mk_words.specs.declared.Step.TheVariants.{Begin, Read as ReadStep, Stamp, Validate, Take, Key, Rule}
use Rattle.mk_history.specs.declared.RoundLog.{RoundLog}
use Rattle.mk_history.specs.declared.Path.TheVariants.{Fast}
use Rattle.mk_history.specs.declared.State.TheVariants.{Learned}
use Rattle.mk_history.specs.Histories.{History}
use Rattle.mk_history.specs.Wholes.{first_state}
use Rattle.mk_history.proofs.RunTrials.{disabled, unfinished, turns_journaled, turns_logged, globals_in, given_answers, cells_in, journaled, states}

abbrev log_1_0 : List Step
log_1_0 =
    Begin 1 2 ∷ (
    Stamp (record { client = 1; seq = 1 }) 10 (record { key = 0; value = Number 5 } ∷ []) ∷ (
    Validate (record { client = 1; seq = 1 }) ∷ (
    Take 1 ∷ (
    Key (record { replica = 0; key = 0; act = CheckWrite (record { time = 10; client = 1 }) }) Okay ∷ (
    Take 4 ∷ (
    Take 2 ∷ (
    Key (record { replica = 1; key = 0; act = CheckWrite (record { time = 10; client = 1 }) }) Okay ∷ (
    Take 5 ∷ (
    Take 3 ∷ (
    Key (record { replica = 2; key = 0; act = CheckWrite (record { time = 10; client = 1 }) }) Okay ∷ (
    Take 6 ∷ (
    Rule (record { client = 1; seq = 1 }) ∷ (
    Take 7 ∷ (
    Key (record { replica = 0; key = 0; act = CommitWrite (record { time = 10; client = 1 }) (Number 5) }) Done ∷ (
    Take 8 ∷ (
    Key (record { replica = 1; key = 0; act = CommitWrite (record { time = 10; client = 1 }) (Number 5) }) Done ∷ (
    Take 9 ∷ (
    Key (record { replica = 2; key = 0; act = CommitWrite (record { time = 10; client = 1 }) (Number 5) }) Done ∷ []))))))))))))))))))

abbrev globals_1 : List GlobalEntry
globals_1 = record { line = Wipe 2; answer = GlobalOk } ∷ (record { line = Ask 1; answer = GlobalOk } ∷ (record { line = PromiseLine 1 1; answer = GlobalOk } ∷ (record { line = PromiseLine 1 0; answer = GlobalOk } ∷ (record { line = PromiseLine 1 2; answer = Lacking } ∷ (record { line = Merge 1; answer = Counts 1 0 } ∷ (record { line = Adopt 1 0; answer = GlobalOk } ∷ (record { line = Adopt 1 1; answer = GlobalOk } ∷ (record { line = Adopt 1 2; answer = GlobalOk } ∷ (record { line = Enter 1; answer = Entered 3 } ∷ (record { line = Wipe 2; answer = GlobalOk } ∷ (record { line = Adopt 1 2; answer = Old 1 } ∷ (record { line = Ask 3; answer = GlobalOk } ∷ (record { line = PromiseLine 3 0; answer = GlobalOk } ∷ (record { line = PromiseLine 3 1; answer = GlobalOk } ∷ (record { line = Merge 3; answer = Counts 1 0 } ∷ (record { line = Adopt 3 0; answer = GlobalOk } ∷ (record { line = Adopt 3 1; answer = GlobalOk } ∷ (record { line = Adopt 3 2; answer = GlobalOk } ∷ (record { line = Enter 3; answer = Entered 3 } ∷ [])))))))))))))))))))

abbrev round_1 : RoundLog
round_1 = record { logs = log_1_0 ∷ []; journals = ((record { seat = 0; act = CheckWrite (record { time = 10; client = 1 }); answer = Okay } ∷ (record { seat = 0; act = CommitWrite (record { time = 10; client = 1 }) (Number 5); answer = Done } ∷ [])) ∷ []) ∷ (((record { seat = 0; act = CheckWrite (record { time = 10; client = 1 }); answer = Okay } ∷ (record { seat = 0; act = CommitWrite (record { time = 10; client = 1 }) (Number 5); answer = Done } ∷ [])) ∷ []) ∷ (((record { seat = 0; act = CheckWrite (record { time = 10; client = 1 }); answer = Okay } ∷ (record { seat = 0; act = CommitWrite (record { time = 10; client = 1 }) (Number 5); answer = Done } ∷ [])) ∷ []) ∷ [])); globals = globals_1 }

abbrev log_2_0 : List Step
log_2_0 =
    Begin 1 2 ∷ (
    ReadStep (record { client = 1; seq = 2 }) 0 ∷ (
    Key (record { replica = 2; key = 0; act = Get }) (Version (record { time = 10; client = 1 }) (Number 5)) ∷ (
    Stamp (record { client = 1; seq = 2 }) 20 [] ∷ (
    Validate (record { client = 1; seq = 2 }) ∷ (
    Take 10 ∷ (
    Key (record { replica = 0; key = 0; act = CheckRead (record { time = 20; client = 1 }) (record { time = 10; client = 1 }) }) Okay ∷ (
    Take 13 ∷ (
    Take 11 ∷ (
    Key (record { replica = 1; key = 0; act = CheckRead (record { time = 20; client = 1 }) (record { time = 10; client = 1 }) }) Okay ∷ (
    Take 14 ∷ (
    Take 12 ∷ (
    Key (record { replica = 2; key = 0; act = CheckRead (record { time = 20; client = 1 }) (record { time = 10; client = 1 }) }) Okay ∷ (
    Take 15 ∷ (
    Rule (record { client = 1; seq = 2 }) ∷ (
    Take 16 ∷ (
    Key (record { replica = 0; key = 0; act = CommitRead (record { time = 20; client = 1 }) }) Done ∷ (
    Take 17 ∷ (
    Key (record { replica = 1; key = 0; act = CommitRead (record { time = 20; client = 1 }) }) Done ∷ (
    Take 18 ∷ (
    Key (record { replica = 2; key = 0; act = CommitRead (record { time = 20; client = 1 }) }) Done ∷ []))))))))))))))))))))

abbrev globals_2 : List GlobalEntry
globals_2 = []

abbrev round_2 : RoundLog
round_2 = record { logs = log_2_0 ∷ []; journals = ((record { seat = 0; act = CheckRead (record { time = 20; client = 1 }) (record { time = 10; client = 1 }); answer = Okay } ∷ (record { seat = 0; act = CommitRead (record { time = 20; client = 1 }); answer = Done } ∷ [])) ∷ []) ∷ (((record { seat = 0; act = CheckRead (record { time = 20; client = 1 }) (record { time = 10; client = 1 }); answer = Okay } ∷ (record { seat = 0; act = CommitRead (record { time = 20; client = 1 }); answer = Done } ∷ [])) ∷ []) ∷ (((record { seat = 0; act = Get; answer = (Version (record { time = 10; client = 1 }) (Number 5)) } ∷ (record { seat = 0; act = CheckRead (record { time = 20; client = 1 }) (record { time = 10; client = 1 }); answer = Okay } ∷ (record { seat = 0; act = CommitRead (record { time = 20; client = 1 }); answer = Done } ∷ []))) ∷ []) ∷ [])); globals = globals_2 }

abbrev pub run : History
run =
    record {
      version = 1;
      faults = 1;
      columns = 1;
      client_columns = 0 ∷ [];
      client_names = (97 ∷ []) ∷ [];
      key_names = (120 ∷ []) ∷ [];
      rounds = round_1 ∷ (round_2 ∷ []);
    }

pub each_enabled : disabled run ≡ []
each_enabled = refl

pub all_finished : unfinished run ≡ []
all_finished = refl

pub acts_agree : turns_journaled run ≡ turns_logged run
acts_agree = refl

pub globals_answer : globals_in run (first_state run) run.rounds ≡ given_answers run
globals_answer = refl

pub cells_answer : cells_in run 3 1 (first_state run) run.rounds ≡ journaled 3 1 run.rounds
cells_answer = refl

pub attempts_end : states run ≡ (record { client = 1; seq = 1 }, Learned Commit Fast) ∷ ((record { client = 1; seq = 2 }, Learned Commit Fast) ∷ [])
attempts_end = refl
