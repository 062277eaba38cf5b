-- Nobody serves.
use Rattle.std.proofs.Common.{◌≡◌, List, [], ◌∷◌, refl}
use Rattle.mk_words.specs.declared.GlobalEntry.{GlobalEntry}
use Rattle.mk_words.specs.declared.GlobalLine.TheVariants.{Wipe}
use Rattle.mk_words.specs.declared.GlobalAnswer.TheVariants.{Ok as GlobalOk}
use Rattle.mk_words.specs.declared.Step.{Step}
use Rattle.mk_words.specs.declared.Step.TheVariants.{Unread}
use Rattle.mk_history.specs.declared.RoundLog.{RoundLog}
use Rattle.mk_history.specs.declared.Left.TheVariants.{Unread as LeftUnread}
use Rattle.mk_history.specs.declared.State.TheVariants.{Left as LeftState}
use Rattle.mk_history.specs.Histories.{History}
use Rattle.mk_history.specs.Wholes.{first_state}
use Rattle.mk_history.proofs.RunTrials.{disabled, unfinished, turns_journaled, turns_logged, globals_in, given_answers, cells_in, journaled, states}

abbrev log_1_0 : List Step
log_1_0 =
    []

abbrev globals_1 : List GlobalEntry
globals_1 = record { line = Wipe 0; answer = GlobalOk } ∷ (record { line = Wipe 1; answer = GlobalOk } ∷ (record { line = Wipe 2; answer = GlobalOk } ∷ []))

abbrev round_1 : RoundLog
round_1 = record { logs = log_1_0 ∷ []; journals = ([] ∷ []) ∷ (([] ∷ []) ∷ (([] ∷ []) ∷ [])); globals = globals_1 }

abbrev log_2_0 : List Step
log_2_0 =
    Unread 1 ∷ []

abbrev globals_2 : List GlobalEntry
globals_2 = []

abbrev round_2 : RoundLog
round_2 = record { logs = log_2_0 ∷ []; journals = ([] ∷ []) ∷ (([] ∷ []) ∷ (([] ∷ []) ∷ [])); globals = globals_2 }

abbrev pub run : History
run =
    record {
      version = 1;
      faults = 1;
      columns = 1;
      client_columns = 0 ∷ [];
      client_names = (97 ∷ []) ∷ [];
      key_names = (120 ∷ []) ∷ [];
      rounds = round_1 ∷ (round_2 ∷ []);
    }

pub each_enabled : disabled run ≡ []
each_enabled = refl

pub all_finished : unfinished run ≡ []
all_finished = refl

pub acts_agree : turns_journaled run ≡ turns_logged run
acts_agree = refl

pub globals_answer : globals_in run (first_state run) run.rounds ≡ given_answers run
globals_answer = refl

pub cells_answer : cells_in run 3 1 (first_state run) run.rounds ≡ journaled 3 1 run.rounds
cells_answer = refl

pub attempts_end : states run ≡ (record { client = 1; seq = 1 }, LeftState LeftUnread) ∷ []
attempts_end = refl
