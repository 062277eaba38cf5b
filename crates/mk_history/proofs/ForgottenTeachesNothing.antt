-- A forgotten outcome teaches nothing: the same run with the epoch entered, and then a takeover of the first attempt.
use Rattle.std.proofs.Common.{◌≡◌, ℕ, List, [], ◌∷◌, refl}
use Rattle.std.specs.Prelude.{Option, Some, None}
use Rattle.mk_txn.specs.declared.TxnId.{TxnId}
use Rattle.mk_txn.specs.declared.Outcome.TheVariants.{Commit}
use Rattle.mk_words.specs.declared.JournalEntry.{JournalEntry}
use Rattle.mk_words.specs.declared.GlobalEntry.{GlobalEntry}
use Rattle.mk_words.specs.declared.GlobalAnswer.{GlobalAnswer}
use Rattle.mk_words.specs.declared.GlobalLine.TheVariants.{Ask, Promise as PromiseLine, Merge, Adopt, Enter}
use Rattle.mk_words.specs.declared.GlobalAnswer.TheVariants.{Ok as GlobalOk, Counts, Entered}
use Rattle.mk_words.specs.declared.Step.{Step}
use Rattle.mk_words.specs.declared.Step.TheVariants.{Take, Takeover, Pick}
use Rattle.mk_model.specs.Conditions.{blocked}
use Rattle.mk_history.specs.declared.RoundLog.{RoundLog}
use Rattle.mk_history.specs.declared.Path.TheVariants.{Fast}
use Rattle.mk_history.specs.declared.State.TheVariants.{Learned}
use Rattle.mk_history.specs.Histories.{History}
use Rattle.mk_history.specs.Wholes.{first_state, after_logs, after_round, column_of, setting_of}
use Rattle.mk_history.proofs.CoveredNotCounted.{log_1_0, journals_1}
use Rattle.mk_history.proofs.RunTrials.{disabled, unfinished, globals_in, given_answers, states}

abbrev id : TxnId
id = record { client = 1; seq = 1 }

-- the merge counts the commits that the marks leave
abbrev globals_1 : GlobalAnswer → List GlobalEntry
globals_1 counts =
    record { line = Ask 1; answer = GlobalOk } ∷ (record { line = PromiseLine 1 1; answer = GlobalOk }
    ∷ (record { line = PromiseLine 1 0; answer = GlobalOk } ∷ (record { line = Merge 1; answer = counts }
    ∷ (record { line = Adopt 1 0; answer = GlobalOk } ∷ (record { line = Adopt 1 1; answer = GlobalOk } ∷ (record { line = Enter 1; answer = Entered 2 } ∷ []))))))

abbrev round_1 : GlobalAnswer → RoundLog
round_1 counts = record { logs = log_1_0 ∷ []; journals = journals_1; globals = globals_1 counts }

-- a takeover at view 2, led by replica 2, asks replicas 0 and 1, which serve epoch 1 by now
abbrev log_2_0 : List Step
log_2_0 = Takeover id 2 ∷ (Take 19 ∷ (Take 22 ∷ (Take 20 ∷ (Take 23 ∷ []))))

abbrev no_journals : List (List (List JournalEntry))
no_journals = ([] ∷ ([] ∷ [])) ∷ (([] ∷ ([] ∷ [])) ∷ (([] ∷ ([] ∷ [])) ∷ []))

abbrev round_2 : RoundLog
round_2 = record { logs = log_2_0 ∷ []; journals = no_journals; globals = [] }

abbrev run : ℕ → GlobalAnswer → History
run version counts =
    record {
      version = version;
      faults = 1;
      columns = 1;
      client_columns = 0 ∷ [];
      client_names = (97 ∷ []) ∷ [];
      key_names = (120 ∷ []) ∷ ((121 ∷ []) ∷ []);
      rounds = round_1 counts ∷ (round_2 ∷ []);
    }

abbrev pub with_marks : History
with_marks = run 2 (Counts 1 0)

abbrev without_marks : History
without_marks = run 1 (Counts 2 0)

pub each_enabled : disabled with_marks ≡ []
each_enabled = refl

pub all_finished : unfinished with_marks ≡ []
all_finished = refl

pub globals_answer : globals_in with_marks (first_state with_marks) with_marks.rounds ≡ given_answers with_marks
globals_answer = refl

pub globals_answer_without : globals_in without_marks (first_state without_marks) without_marks.rounds ≡ given_answers without_marks
globals_answer_without = refl

-- whether the takeover may pick after the second round's log
abbrev pick_blocked : History → RoundLog → Option ℕ
pick_blocked h first =
    let before = after_round h first (first_state h) in blocked (setting_of h before) (column_of (after_logs h round_2 before) 0) (Pick id 2)

pub no_pick : pick_blocked with_marks (round_1 (Counts 1 0)) ≡ Some 4
no_pick = refl

-- in version 1 the outcome was told, and the takeover picks it
pub pick_known : pick_blocked without_marks (round_1 (Counts 2 0)) ≡ None
pick_known = refl

pub attempts_end : states with_marks ≡ (id, Learned Commit Fast) ∷ ((record { client = 1; seq = 2 }, Learned Commit Fast) ∷ [])
attempts_end = refl
