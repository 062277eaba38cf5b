-- What a run is tried for by computing: the steps that are not enabled, the logs that end while a key call is wanted, the answers of
-- cells and of global lines, the acts of logs and journals, and how each attempt ends.
use Rattle.std.proofs.Common.{ℕ, Bool, true, List, [], ◌∷◌, ◌++◌, not, length}
use Rattle.std.specs.Prelude.{Option, Some, None, map, filter, is_some, flat_map}
use Rattle.mk_txn.specs.declared.TxnId.{TxnId}
use Rattle.mk_words.specs.declared.Answer.{Answer}
use Rattle.mk_words.specs.declared.JournalEntry.{JournalEntry}
use Rattle.mk_words.specs.Cells.{CellState, cell_answer, cell_after}
use Rattle.mk_words.specs.declared.GlobalEntry.{GlobalEntry}
use Rattle.mk_words.specs.declared.GlobalAnswer.{GlobalAnswer}
use Rattle.mk_words.specs.declared.GlobalAnswer.TheVariants.{Ok as GlobalOk, WordFault}
use Rattle.mk_quorum.specs.Sizes.{members}
use Rattle.mk_words.specs.declared.Step.{Step}
use Rattle.mk_model.specs.ColumnState.{Setting, ColumnState, AttemptState, numbers_from}
use Rattle.mk_model.specs.Conditions.{blocked, is_idle}
use Rattle.mk_model.specs.Steps.{column_after}
use Rattle.mk_model.specs.GlobalAnswers.{global_answer, writes_word}
use Rattle.mk_history.specs.declared.RoundLog.{RoundLog}
use Rattle.mk_history.specs.declared.Left.{Left}
use Rattle.mk_history.specs.declared.State.{State}
use Rattle.mk_history.specs.declared.State.TheVariants.{Learned, Left as LeftState}
use Rattle.mk_history.specs.Histories.{History, log_of, journal_of}
use Rattle.mk_history.specs.Matching.{Turn, turns_in_journal, turns_in_log}
use Rattle.mk_history.specs.Wholes.{WholeState, first_state, setting_of, column_of, cell_of, after_logs, after_global, after_round, last_state}
use Rattle.mk_history.specs.Learning.{Learnt, learned, first_learned}
use Rattle.mk_history.specs.Leaving.{left_of}

abbrev pub blocks_along : Setting → ColumnState → List Step → List (Option ℕ)
blocks_along round column [] = []
blocks_along round column (step ∷ steps) = blocked round column step ∷ blocks_along round (column_after round column step) steps

abbrev pub blocks : History → WholeState → List RoundLog → List (Option ℕ)
blocks run state [] = []
blocks run state (round ∷ rounds) =
    flat_map (λ c. blocks_along (setting_of run state) (column_of state c) (log_of round c)) (numbers_from 0 run.columns)
    ++ blocks run (after_round run round state) rounds

-- the steps that are not enabled
abbrev pub disabled : History → List (Option ℕ)
disabled run = filter is_some (blocks run (first_state run) run.rounds)

-- a fault is an answer of a line that writes its word and would have been done
abbrev pub unless_fault : Bool → GlobalAnswer → GlobalAnswer → GlobalAnswer
unless_fault true WordFault GlobalOk = WordFault
unless_fault writes given answer = answer

abbrev pub globals_along : History → WholeState → List GlobalEntry → List GlobalAnswer
globals_along run state [] = []
globals_along run state (entry ∷ entries) =
    unless_fault (writes_word entry.line) entry.answer (global_answer state.epochs entry.line) ∷ globals_along run (after_global run state entry) entries

abbrev pub globals_in : History → WholeState → List RoundLog → List GlobalAnswer
globals_in run state [] = []
globals_in run state (round ∷ rounds) =
    globals_along run (after_logs run round state) round.globals ++ globals_in run (after_round run round state) rounds

abbrev pub given_answers : History → List GlobalAnswer
given_answers run = flat_map (λ round. map (λ entry. entry.answer) round.globals) run.rounds

abbrev pub answers_of : CellState → List JournalEntry → List Answer
answers_of cell [] = []
answers_of cell (entry ∷ journal) = cell_answer cell entry.act ∷ answers_of (cell_after cell entry.act) journal

abbrev pub cells_in : History → ℕ → ℕ → WholeState → List RoundLog → List Answer
cells_in run n keys state [] = []
cells_in run n keys state (round ∷ rounds) =
    flat_map (λ r. flat_map (λ key. answers_of (cell_of state r key) (journal_of round r key)) (numbers_from 0 keys)) (numbers_from 0 n)
    ++ cells_in run n keys (after_round run round state) rounds

abbrev pub journaled : ℕ → ℕ → List RoundLog → List Answer
journaled n keys [] = []
journaled n keys (round ∷ rounds) =
    flat_map (λ r. flat_map (λ key. map (λ entry. entry.answer) (journal_of round r key)) (numbers_from 0 keys)) (numbers_from 0 n) ++ journaled n keys rounds

-- the columns that want a key call where a round's logs end
abbrev pub unfinished_in : History → WholeState → List RoundLog → List ColumnState
unfinished_in run state [] = []
unfinished_in run state (round ∷ rounds) =
    filter (λ (column : ColumnState). not (is_idle column.work)) (after_logs run round state).columns ++ unfinished_in run (after_round run round state) rounds

abbrev pub unfinished : History → List ColumnState
unfinished run = unfinished_in run (first_state run) run.rounds

-- by round, column, replica and key: what the journals have of each column
abbrev pub turns_journaled : History → List (List Turn)
turns_journaled run =
    flat_map (λ round. flat_map (λ c. flat_map (λ r. map (λ key. turns_in_journal c (journal_of round r key))
    (numbers_from 0 (length run.key_names))) (numbers_from 0 (members run.faults))) (numbers_from 0 run.columns)) run.rounds

-- and what the logs have of each key
abbrev pub turns_logged : History → List (List Turn)
turns_logged run =
    flat_map (λ round. flat_map (λ c. flat_map (λ r. map (λ key. turns_in_log r key (log_of round c))
    (numbers_from 0 (length run.key_names))) (numbers_from 0 (members run.faults))) (numbers_from 0 run.columns)) run.rounds

abbrev pub state_by : Left → Option Learnt → State
state_by left (Some l) = Learned l.outcome l.path
state_by left None = LeftState left

abbrev pub states_in : History → ColumnState → List AttemptState → List (TxnId × State)
states_in run column [] = []
states_in run column (attempt ∷ attempts) =
    (attempt.id, state_by (left_of run.faults column attempt) (first_learned attempt.id (learned run))) ∷ states_in run column attempts

-- how each attempt ends, by column and in order of beginning
abbrev pub states : History → List (TxnId × State)
states run = flat_map (λ column. states_in run column column.attempts) (last_state run).columns
