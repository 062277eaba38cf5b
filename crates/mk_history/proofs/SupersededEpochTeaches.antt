-- A superseded epoch that was adopted teaches.
use Rattle.std.proofs.Common.{◌≡◌, List, [], ◌∷◌, refl}
use Rattle.mk_txn.specs.declared.Value.TheVariants.{Number}
use Rattle.mk_txn.specs.declared.Cause.TheVariants.{Epoch as ByEpoch}
use Rattle.mk_txn.specs.declared.Outcome.TheVariants.{Abort}
use Rattle.mk_words.specs.declared.Act.TheVariants.{CheckWrite}
use Rattle.mk_words.specs.declared.Answer.TheVariants.{Okay}
use Rattle.mk_words.specs.declared.GlobalEntry.{GlobalEntry}
use Rattle.mk_words.specs.declared.GlobalLine.TheVariants.{Ask, Promise as PromiseLine, Merge, Adopt, Enter}
use Rattle.mk_words.specs.declared.GlobalAnswer.TheVariants.{Ok as GlobalOk, Counts, Entered}
use Rattle.mk_words.specs.declared.Step.{Step}
use Rattle.mk_words.specs.declared.Step.TheVariants.{Begin, Stamp, Validate, Take, Key}
use Rattle.mk_history.specs.declared.RoundLog.{RoundLog}
use Rattle.mk_history.specs.declared.Path.TheVariants.{Epoch}
use Rattle.mk_history.specs.declared.State.TheVariants.{Learned}
use Rattle.mk_history.specs.Histories.{History}
use Rattle.mk_history.specs.Wholes.{first_state}
use Rattle.mk_history.proofs.RunTrials.{disabled, unfinished, turns_journaled, turns_logged, globals_in, given_answers, cells_in, journaled, states}

abbrev log_1_0 : List Step
log_1_0 =
    Begin 1 0 ∷ (
    Stamp (record { client = 1; seq = 1 }) 10 (record { key = 0; value = Number 5 } ∷ []) ∷ (
    Validate (record { client = 1; seq = 1 }) ∷ (
    Take 2 ∷ (
    Key (record { replica = 1; key = 0; act = CheckWrite (record { time = 10; client = 1 }) }) Okay ∷ (
    Take 4 ∷ [])))))

abbrev globals_1 : List GlobalEntry
globals_1 = record { line = Ask 1; answer = GlobalOk } ∷ (record { line = PromiseLine 1 1; answer = GlobalOk } ∷ (record { line = PromiseLine 1 0; answer = GlobalOk } ∷ (record { line = Merge 1; answer = Counts 0 1 } ∷ (record { line = Adopt 1 0; answer = GlobalOk } ∷ (record { line = Adopt 1 1; answer = GlobalOk } ∷ (record { line = Ask 2; answer = GlobalOk } ∷ (record { line = PromiseLine 2 2; answer = GlobalOk } ∷ (record { line = PromiseLine 2 0; answer = GlobalOk } ∷ (record { line = Merge 2; answer = Counts 0 1 } ∷ (record { line = Adopt 2 2; answer = GlobalOk } ∷ (record { line = Adopt 2 0; answer = GlobalOk } ∷ (record { line = Adopt 2 1; answer = GlobalOk } ∷ (record { line = Enter 1; answer = Entered 2 } ∷ [])))))))))))))

abbrev round_1 : RoundLog
round_1 = record { logs = log_1_0 ∷ []; journals = ([] ∷ []) ∷ (((record { seat = 0; act = CheckWrite (record { time = 10; client = 1 }); answer = Okay } ∷ []) ∷ []) ∷ (([] ∷ []) ∷ [])); globals = globals_1 }

abbrev pub run : History
run =
    record {
      version = 1;
      faults = 1;
      columns = 1;
      client_columns = 0 ∷ [];
      client_names = (97 ∷ []) ∷ [];
      key_names = (120 ∷ []) ∷ [];
      rounds = round_1 ∷ [];
    }

pub each_enabled : disabled run ≡ []
each_enabled = refl

pub all_finished : unfinished run ≡ []
all_finished = refl

pub acts_agree : turns_journaled run ≡ turns_logged run
acts_agree = refl

pub globals_answer : globals_in run (first_state run) run.rounds ≡ given_answers run
globals_answer = refl

pub cells_answer : cells_in run 3 1 (first_state run) run.rounds ≡ journaled 3 1 run.rounds
cells_answer = refl

pub attempts_end : states run ≡ (record { client = 1; seq = 1 }, Learned (Abort (ByEpoch 1)) (Epoch 1)) ∷ []
attempts_end = refl
