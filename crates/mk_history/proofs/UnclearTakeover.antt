-- Unclear.
use Rattle.std.proofs.Common.{◌≡◌, List, [], ◌∷◌, refl}
use Rattle.mk_txn.specs.declared.Value.TheVariants.{Number}
use Rattle.mk_words.specs.declared.Act.TheVariants.{CheckWrite}
use Rattle.mk_words.specs.declared.Answer.TheVariants.{Okay}
use Rattle.mk_words.specs.declared.GlobalEntry.{GlobalEntry}
use Rattle.mk_words.specs.declared.Step.{Step}
use Rattle.mk_words.specs.declared.Step.TheVariants.{Begin, Stamp, Validate, Take, Key, Takeover}
use Rattle.mk_history.specs.declared.RoundLog.{RoundLog}
use Rattle.mk_history.specs.declared.Left.TheVariants.{Unclear}
use Rattle.mk_history.specs.declared.State.TheVariants.{Left as LeftState}
use Rattle.mk_history.specs.Histories.{History}
use Rattle.mk_history.specs.Wholes.{first_state}
use Rattle.mk_history.proofs.RunTrials.{disabled, unfinished, turns_journaled, turns_logged, globals_in, given_answers, cells_in, journaled, states}

abbrev log_1_0 : List Step
log_1_0 =
    Begin 1 0 ∷ (
    Stamp (record { client = 1; seq = 1 }) 10 (record { key = 0; value = Number 5 } ∷ []) ∷ (
    Validate (record { client = 1; seq = 1 }) ∷ (
    Take 1 ∷ (
    Key (record { replica = 0; key = 0; act = CheckWrite (record { time = 10; client = 1 }) }) Okay ∷ (
    Take 6 ∷ (
    Take 2 ∷ (
    Key (record { replica = 1; key = 0; act = CheckWrite (record { time = 10; client = 1 }) }) Okay ∷ (
    Take 7 ∷ (
    Takeover (record { client = 1; seq = 1 }) 1 ∷ (
    Take 8 ∷ (
    Take 13 ∷ (
    Take 9 ∷ (
    Take 14 ∷ (
    Take 10 ∷ (
    Take 15 ∷ [])))))))))))))))

abbrev globals_1 : List GlobalEntry
globals_1 = []

abbrev round_1 : RoundLog
round_1 = record { logs = log_1_0 ∷ []; journals = ((record { seat = 0; act = CheckWrite (record { time = 10; client = 1 }); answer = Okay } ∷ []) ∷ []) ∷ (((record { seat = 0; act = CheckWrite (record { time = 10; client = 1 }); answer = Okay } ∷ []) ∷ []) ∷ (([] ∷ []) ∷ (([] ∷ []) ∷ (([] ∷ []) ∷ [])))); globals = globals_1 }

abbrev pub run : History
run =
    record {
      version = 1;
      faults = 2;
      columns = 1;
      client_columns = 0 ∷ [];
      client_names = (97 ∷ []) ∷ [];
      key_names = (120 ∷ []) ∷ [];
      rounds = round_1 ∷ [];
    }

pub each_enabled : disabled run ≡ []
each_enabled = refl

pub all_finished : unfinished run ≡ []
all_finished = refl

pub acts_agree : turns_journaled run ≡ turns_logged run
acts_agree = refl

pub globals_answer : globals_in run (first_state run) run.rounds ≡ given_answers run
globals_answer = refl

pub cells_answer : cells_in run 5 1 (first_state run) run.rounds ≡ journaled 5 1 run.rounds
cells_answer = refl

pub attempts_end : states run ≡ (record { client = 1; seq = 1 }, LeftState (Unclear 2 1)) ∷ []
attempts_end = refl
