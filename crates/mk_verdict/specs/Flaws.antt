-- The first flaw of a run. Rounds come in order; in a round first each column's log, then each journal, then for each
-- replica, key and column the journal's entries against the log's key steps, and then the global lines.
use Rattle.std.specs.Prelude.{ℕ, zero, suc, ◌+◌, List, [], ◌∷◌, length, Option, Some, None, is_none, option_map, unwrap_or, if◌then◌else◌}
use Rattle.std.specs.Option.{option_or}
use Rattle.mk_quorum.specs.Sizes.{members}
use Rattle.mk_words.specs.Cells.{CellState, cell_answer, cell_after}
use Rattle.mk_words.specs.declared.GlobalEntry.{GlobalEntry}
use Rattle.mk_words.specs.declared.JournalEntry.{JournalEntry}
use Rattle.mk_words.specs.declared.Step.{Step}
use Rattle.mk_model.specs.ColumnState.{Setting, ColumnState}
use Rattle.mk_model.specs.Conditions.{is_idle, blocked}
use Rattle.mk_model.specs.Steps.{column_after}
use Rattle.mk_history.specs.declared.RoundLog.{RoundLog}
use Rattle.mk_history.specs.Histories.{History, log_of, journal_of}
use Rattle.mk_history.specs.Matching.{Turn, turns_in_log, turns_in_journal}
use Rattle.mk_history.specs.Wholes.{WholeState, first_state, setting_of, column_of, cell_of, after_logs, after_global, after_round}
use Rattle.mk_verdict.specs.declared.Flaw.{Flaw}
use Rattle.mk_verdict.specs.declared.Flaw.TheVariants.{Disabled, Unfinished, Answer as WrongAnswer, Unmatched}
use Rattle.mk_verdict.specs.declared.Place.{Place}
use Rattle.mk_verdict.specs.declared.Place.TheVariants.{Column, Cell, Match, Global}
use Rattle.mk_verdict.specs.declared.PlacedFlaw.{PlacedFlaw}
use Rattle.mk_verdict.specs.declared.Verdict.{Verdict}
use Rattle.mk_verdict.specs.declared.Verdict.TheVariants.{Legal, Broken}
use Rattle.mk_verdict.specs.Sameness.{same_answer, same_turn, may_answer}

-- there is this flaw at this place
abbrev pub flaw_at : Place → Flaw → Option PlacedFlaw
flaw_at place why = Some (record { place = place; why = why })

-- of what there is for the numbers from k on, n of them, the first
abbrev pub first_from : {X : Type 0} → (ℕ → Option X) → ℕ → ℕ → Option X
first_from f k zero = None
first_from f k (suc n) = option_or (f k) (first_from f (k + 1) n)

-- the first step from this entry on that is not enabled in its turn, and else, behind the last, a key call that is still wanted
abbrev pub flaw_of_log : Setting → ColumnState → ℕ → ℕ → List Step → Option PlacedFlaw
flaw_of_log setting column c entry [] = if is_idle column.work then None else flaw_at (Column c entry) Unfinished
flaw_of_log setting column c entry (step ∷ steps) =
    if is_none (blocked setting column step)
    then flaw_of_log setting (column_after setting column step) c (entry + 1) steps
    else flaw_at (Column c entry) Disabled

-- the first entry from this one on for which the cell gives another answer in its turn
abbrev pub flaw_of_journal : CellState → ℕ → ℕ → ℕ → List JournalEntry → Option PlacedFlaw
flaw_of_journal cell r key entry [] = None
flaw_of_journal cell r key entry (turn ∷ journal) =
    if same_answer (cell_answer cell turn.act) turn.answer
    then flaw_of_journal (cell_after cell turn.act) r key (entry + 1) journal
    else flaw_at (Cell r key entry) WrongAnswer

-- the first place, counted from this one, at which two lists differ or one of them ends
abbrev pub difference : ℕ → List Turn → List Turn → Option ℕ
difference entry [] [] = None
difference entry [] (b ∷ bs) = Some entry
difference entry (a ∷ xs) [] = Some entry
difference entry (a ∷ xs) (b ∷ bs) = if same_turn a b then difference (entry + 1) xs bs else Some entry

-- the first place at which the column's entries in the journal and its key steps differ
abbrev pub flaw_of_match : RoundLog → ℕ → ℕ → ℕ → Option PlacedFlaw
flaw_of_match round r key c =
    option_map (λ entry. record { place = Match r key c entry; why = Unmatched })
    (difference 1 (turns_in_journal c (journal_of round r key)) (turns_in_log r key (log_of round c)))

-- the first global line from this one on whose answer the state before it does not allow
abbrev pub flaw_of_globals : History → WholeState → ℕ → List GlobalEntry → Option PlacedFlaw
flaw_of_globals run state entry [] = None
flaw_of_globals run state entry (line ∷ lines) =
    if may_answer state.epochs line.line line.answer
    then flaw_of_globals run (after_global run state line) (entry + 1) lines
    else flaw_at (Global entry) WrongAnswer

-- by column
abbrev pub flaw_of_logs : History → WholeState → RoundLog → Option PlacedFlaw
flaw_of_logs run state round = first_from (λ c. flaw_of_log (setting_of run state) (column_of state c) c 1 (log_of round c)) 0 run.columns

-- by replica and key
abbrev pub flaw_of_journals : History → WholeState → RoundLog → Option PlacedFlaw
flaw_of_journals run state round =
    first_from (λ r. first_from (λ key. flaw_of_journal (cell_of state r key) r key 1 (journal_of round r key)) 0 (length run.key_names)) 0 (members run.faults)

-- by replica, key and column
abbrev pub flaw_of_matches : History → RoundLog → Option PlacedFlaw
flaw_of_matches run round =
    first_from (λ r. first_from (λ key. first_from (flaw_of_match round r key) 0 run.columns) 0 (length run.key_names)) 0 (members run.faults)

-- the first flaw of a round
abbrev pub flaw_of_round : History → WholeState → RoundLog → Option PlacedFlaw
flaw_of_round run state round =
    option_or (flaw_of_logs run state round)
    (option_or (flaw_of_journals run state round)
    (option_or (flaw_of_matches run round)
    (flaw_of_globals run (after_logs run round state) 1 round.globals)))

-- a flaw of the round of this number
abbrev pub broken : ℕ → PlacedFlaw → Verdict
broken number flaw = Broken number flaw.place flaw.why

-- the first flaw of these rounds, the first of which has this number
abbrev pub flaw_from : ℕ → History → WholeState → List RoundLog → Option Verdict
flaw_from number run state [] = None
flaw_from number run state (round ∷ rounds) =
    option_or (option_map (broken number) (flaw_of_round run state round)) (flaw_from (number + 1) run (after_round run round state) rounds)

-- the first flaw of a run, where there is one
abbrev pub verdict_of : History → Verdict
verdict_of run = unwrap_or (flaw_from 1 run (first_state run) run.rounds) Legal
