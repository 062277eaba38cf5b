-- What columns have learned since they had learned so much.
use Rattle.std.specs.Prelude.{◌≡◌, ℕ, ◌==◌, ◌&&◌, not, List, [], ◌∷◌, ◌++◌, length, map, drop, if◌then◌else◌}
use Rattle.std.specs.List.{list_any}
use Rattle.mk_txn.specs.declared.TxnId.{TxnId}
use Rattle.mk_txn.specs.declared.Outcome.{Outcome}
use Rattle.mk_words.specs.Bases.{taught_by}
use Rattle.mk_words.specs.declared.GlobalAnswer.{GlobalAnswer}
use Rattle.mk_words.specs.declared.GlobalEntry.{GlobalEntry}
use Rattle.mk_words.specs.declared.GlobalLine.{GlobalLine}
use Rattle.mk_words.specs.declared.GlobalLine.TheVariants.{Enter}
use Rattle.mk_model.specs.EpochState.{EpochState, made_for}
use Rattle.mk_model.specs.GlobalAnswers.{is_accepted}
use Rattle.mk_model.specs.GlobalSteps.{base_or_empty}
use Rattle.mk_history.specs.declared.RoundLog.{RoundLog}
use Rattle.mk_history.specs.Histories.{History}
use Rattle.mk_history.specs.Learning.{Found, found_from, entered_after, entered_through}
use Rattle.mk_history.specs.Wholes.{first_state}
use Rattle.mk_column.specs.ColumnByCode.{ColumnView}
use Rattle.mk_run.specs.declared.firsts.FirstLearning.{FirstLearning}
use Rattle.mk_run.specs.Firsts.{kept_of_learning, kept_by_enter}

-- how much a column has learned
abbrev pub known_of : ColumnView → ℕ
known_of column = length column.state.learned

-- what is kept of what a column has learned since it had learned so much
abbrev pub news_of : ColumnView → ℕ → List FirstLearning
news_of column known = map kept_of_learning (drop known column.state.learned)

-- the same of several columns, in order
abbrev pub all_news : List ColumnView → List ℕ → List FirstLearning
all_news [] known = []
all_news (column ∷ columns) [] = []
all_news (column ∷ columns) (k ∷ known) = news_of column k ++ all_news columns known

-- what the base of an epoch tells, where it was made
abbrev pub told_in : EpochState → ℕ → List (TxnId × Outcome)
told_in state epoch = taught_by (base_or_empty (made_for epoch state))

-- what an accepted Enter tells of its epoch where none was accepted before
abbrev pub news_by_line : (ℕ → List (TxnId × Outcome)) → List ℕ → GlobalAnswer → GlobalLine → List FirstLearning
news_by_line told entered answer (Enter epoch) =
    if is_accepted answer && not (list_any (λ e. e == epoch) entered) then map (kept_by_enter epoch) (told epoch) else []
news_by_line told entered answer _ = []

-- the same along these lines, where these epochs were entered before
abbrev pub news_by_lines : (ℕ → List (TxnId × Outcome)) → List ℕ → List GlobalEntry → List FirstLearning
news_by_lines told entered [] = []
news_by_lines told entered (entry ∷ entries) =
    news_by_line told entered entry.answer entry.line ++ news_by_lines told (entered_after entry.answer entered entry.line) entries

-- the epochs that were entered before these rounds and in them
abbrev pub entered_along : List ℕ → List RoundLog → List ℕ
entered_along entered [] = entered
entered_along entered (round ∷ rounds) = entered_along (entered_through entered round.globals) rounds

-- the same epochs, in whatever order
abbrev pub SameEpochs : List ℕ → List ℕ → Type 0
SameEpochs one other = (epoch : ℕ) → list_any (λ e. e == epoch) one ≡ list_any (λ e. e == epoch) other

-- what is found along the first rounds of a run
abbrev pub found_along : History → List RoundLog → List Found
found_along run rounds = found_from 1 run (first_state run) [] rounds
