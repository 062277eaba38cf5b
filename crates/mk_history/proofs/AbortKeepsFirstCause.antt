-- An abort keeps its first cause.
use Rattle.std.proofs.Common.{◌≡◌, List, [], ◌∷◌, refl}
use Rattle.mk_txn.specs.declared.Value.TheVariants.{Number}
use Rattle.mk_txn.specs.declared.Reason.TheVariants.{ReadPending}
use Rattle.mk_txn.specs.declared.Cause.TheVariants.{Conflict as ByConflict}
use Rattle.mk_txn.specs.declared.Outcome.TheVariants.{Commit, Abort}
use Rattle.mk_words.specs.declared.Act.TheVariants.{Get, CheckRead, CheckWrite, CommitWrite}
use Rattle.mk_words.specs.declared.Answer.TheVariants.{Version, Okay, Refused, Done}
use Rattle.mk_words.specs.declared.GlobalEntry.{GlobalEntry}
use Rattle.mk_words.specs.declared.GlobalLine.TheVariants.{Ask, Promise as PromiseLine, Merge, Adopt, Enter}
use Rattle.mk_words.specs.declared.GlobalAnswer.TheVariants.{Ok as GlobalOk, Counts, Entered}
use Rattle.mk_words.specs.declared.Step.{Step}
use Rattle.mk_words.specs.declared.Step.TheVariants.{Begin, Read as ReadStep, Stamp, Validate, Take, Key, Rule}
use Rattle.mk_history.specs.declared.RoundLog.{RoundLog}
use Rattle.mk_history.specs.declared.Path.TheVariants.{Fast, Epoch}
use Rattle.mk_history.specs.declared.State.TheVariants.{Learned}
use Rattle.mk_history.specs.Histories.{History}
use Rattle.mk_history.specs.Wholes.{first_state}
use Rattle.mk_history.proofs.RunTrials.{disabled, unfinished, turns_journaled, turns_logged, globals_in, given_answers, cells_in, journaled, states}

abbrev log_1_0 : List Step
log_1_0 =
    Begin 1 0 ∷ (
    Stamp (record { client = 1; seq = 1 }) 10 (record { key = 0; value = Number 5 } ∷ []) ∷ (
    Begin 2 0 ∷ (
    ReadStep (record { client = 2; seq = 1 }) 0 ∷ (
    Key (record { replica = 0; key = 0; act = Get }) (Version (record { time = 0; client = 0 }) (Number 0)) ∷ (
    Stamp (record { client = 2; seq = 1 }) 11 (record { key = 1; value = Number 1 } ∷ []) ∷ (
    Validate (record { client = 1; seq = 1 }) ∷ (
    Take 1 ∷ (
    Key (record { replica = 0; key = 0; act = CheckWrite (record { time = 10; client = 1 }) }) Okay ∷ (
    Take 4 ∷ (
    Take 2 ∷ (
    Key (record { replica = 1; key = 0; act = CheckWrite (record { time = 10; client = 1 }) }) Okay ∷ (
    Take 5 ∷ (
    Take 3 ∷ (
    Key (record { replica = 2; key = 0; act = CheckWrite (record { time = 10; client = 1 }) }) Okay ∷ (
    Take 6 ∷ (
    Validate (record { client = 2; seq = 1 }) ∷ (
    Take 7 ∷ (
    Key (record { replica = 0; key = 0; act = CheckRead (record { time = 11; client = 2 }) (record { time = 0; client = 0 }) }) (Refused ReadPending (record { time = 10; client = 1 })) ∷ (
    Take 10 ∷ (
    Take 8 ∷ (
    Key (record { replica = 1; key = 0; act = CheckRead (record { time = 11; client = 2 }) (record { time = 0; client = 0 }) }) (Refused ReadPending (record { time = 10; client = 1 })) ∷ (
    Take 11 ∷ (
    Take 9 ∷ (
    Key (record { replica = 2; key = 0; act = CheckRead (record { time = 11; client = 2 }) (record { time = 0; client = 0 }) }) (Refused ReadPending (record { time = 10; client = 1 })) ∷ (
    Rule (record { client = 1; seq = 1 }) ∷ (
    Take 13 ∷ (
    Key (record { replica = 0; key = 0; act = CommitWrite (record { time = 10; client = 1 }) (Number 5) }) Done ∷ (
    Take 14 ∷ (
    Key (record { replica = 1; key = 0; act = CommitWrite (record { time = 10; client = 1 }) (Number 5) }) Done ∷ (
    Take 15 ∷ (
    Key (record { replica = 2; key = 0; act = CommitWrite (record { time = 10; client = 1 }) (Number 5) }) Done ∷ (
    Rule (record { client = 2; seq = 1 }) ∷ (
    Take 16 ∷ (
    Take 19 ∷ []))))))))))))))))))))))))))))))))))

abbrev globals_1 : List GlobalEntry
globals_1 = record { line = Ask 1; answer = GlobalOk } ∷ (record { line = PromiseLine 1 1; answer = GlobalOk } ∷ (record { line = PromiseLine 1 0; answer = GlobalOk } ∷ (record { line = Merge 1; answer = Counts 1 1 } ∷ (record { line = Adopt 1 0; answer = GlobalOk } ∷ (record { line = Adopt 1 1; answer = GlobalOk } ∷ (record { line = Enter 1; answer = Entered 2 } ∷ []))))))

abbrev round_1 : RoundLog
round_1 = record { logs = log_1_0 ∷ []; journals = ((record { seat = 0; act = Get; answer = (Version (record { time = 0; client = 0 }) (Number 0)) } ∷ (record { seat = 0; act = CheckWrite (record { time = 10; client = 1 }); answer = Okay } ∷ (record { seat = 0; act = CheckRead (record { time = 11; client = 2 }) (record { time = 0; client = 0 }); answer = (Refused ReadPending (record { time = 10; client = 1 })) } ∷ (record { seat = 0; act = CommitWrite (record { time = 10; client = 1 }) (Number 5); answer = Done } ∷ [])))) ∷ ([] ∷ [])) ∷ (((record { seat = 0; act = CheckWrite (record { time = 10; client = 1 }); answer = Okay } ∷ (record { seat = 0; act = CheckRead (record { time = 11; client = 2 }) (record { time = 0; client = 0 }); answer = (Refused ReadPending (record { time = 10; client = 1 })) } ∷ (record { seat = 0; act = CommitWrite (record { time = 10; client = 1 }) (Number 5); answer = Done } ∷ []))) ∷ ([] ∷ [])) ∷ (((record { seat = 0; act = CheckWrite (record { time = 10; client = 1 }); answer = Okay } ∷ (record { seat = 0; act = CheckRead (record { time = 11; client = 2 }) (record { time = 0; client = 0 }); answer = (Refused ReadPending (record { time = 10; client = 1 })) } ∷ (record { seat = 0; act = CommitWrite (record { time = 10; client = 1 }) (Number 5); answer = Done } ∷ []))) ∷ ([] ∷ [])) ∷ [])); globals = globals_1 }

abbrev pub run : History
run =
    record {
      version = 1;
      faults = 1;
      columns = 1;
      client_columns = 0 ∷ (0 ∷ []);
      client_names = (97 ∷ []) ∷ ((98 ∷ []) ∷ []);
      key_names = (120 ∷ []) ∷ ((121 ∷ []) ∷ []);
      rounds = round_1 ∷ [];
    }

pub each_enabled : disabled run ≡ []
each_enabled = refl

pub all_finished : unfinished run ≡ []
all_finished = refl

pub acts_agree : turns_journaled run ≡ turns_logged run
acts_agree = refl

pub globals_answer : globals_in run (first_state run) run.rounds ≡ given_answers run
globals_answer = refl

pub cells_answer : cells_in run 3 2 (first_state run) run.rounds ≡ journaled 3 2 run.rounds
cells_answer = refl

pub attempts_end : states run ≡ (record { client = 1; seq = 1 }, Learned Commit Fast) ∷ ((record { client = 2; seq = 1 }, Learned (Abort (ByConflict (record { key = 0; reason = ReadPending; stamp = (record { time = 10; client = 1 }) }))) (Epoch 1)) ∷ [])
attempts_end = refl
