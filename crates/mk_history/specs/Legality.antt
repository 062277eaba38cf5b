-- When a run could have happened.
use Rattle.std.specs.Prelude.{ℕ, ◌<◌, List, [], ◌∷◌, length}
use Rattle.mk_words.specs.Journals.{EachAnswered}
use Rattle.mk_quorum.specs.Sizes.{members}
use Rattle.mk_words.specs.declared.GlobalEntry.{GlobalEntry}
use Rattle.mk_model.specs.Logs.{LogReplays}
use Rattle.mk_model.specs.GlobalSteps.{IsAnswer}
use Rattle.mk_history.specs.declared.RoundLog.{RoundLog}
use Rattle.mk_history.specs.Histories.{History, log_of, journal_of}
use Rattle.mk_history.specs.Matching.{IsMatched}
use Rattle.mk_history.specs.Wholes.{WholeState, first_state, setting_of, column_of, cell_of, after_logs, after_global, after_round}

-- each global line has an answer that the state before it allows
abbrev pub EachGlobalAnswered : History → WholeState → List GlobalEntry → Type 0
EachGlobalAnswered run state [] = Unit {0}
EachGlobalAnswered run state (entry ∷ entries) =
    IsAnswer state.epochs entry.line entry.answer × EachGlobalAnswered run (after_global run state entry) entries

-- each log and each journal replays from the state before the round, they are matched, and the global lines replay;
-- no order between two columns or between two journals is asked
pub record IsLegalRound (run : History) (round : RoundLog) (state : WholeState) : Type 0 where
  pub logs : (c : ℕ) → c < run.columns → LogReplays (setting_of run state) (column_of state c) (log_of round c)
  pub journals : (r key : ℕ) → r < members run.faults → key < length run.key_names → EachAnswered (cell_of state r key) (journal_of round r key)
  pub matched : IsMatched run round
  pub globals : EachGlobalAnswered run (after_logs run round state) round.globals

-- each of these rounds is legal in its turn
abbrev pub EachRoundLegal : History → WholeState → List RoundLog → Type 0
EachRoundLegal run state [] = Unit {0}
EachRoundLegal run state (round ∷ rounds) = IsLegalRound run round state × EachRoundLegal run (after_round run round state) rounds

-- each round is legal in its turn
abbrev pub IsLegal : History → Type 0
IsLegal run = EachRoundLegal run (first_state run) run.rounds
