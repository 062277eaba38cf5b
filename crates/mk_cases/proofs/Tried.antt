-- A round that passes all trials is legal. A trial compares lists, so that it can be made by computing.
use Rattle.std.proofs.Common.{◌≡◌, ◌⊎◌, ◌<◌, ◌≤◌, ◌+◌, ℕ, zero, suc, List, [], ◌∷◌, Option, None, arith, inl, inr, sym, subst}
use Rattle.std.specs.Prelude.{map, length}
use Rattle.mk_lists.specs.Among.{Among}
use Rattle.mk_words.specs.declared.Answer.{Answer}
use Rattle.mk_words.specs.declared.JournalEntry.{JournalEntry}
use Rattle.mk_words.specs.declared.GlobalEntry.{GlobalEntry}
use Rattle.mk_words.specs.declared.GlobalAnswer.{GlobalAnswer}
use Rattle.mk_words.specs.declared.Step.{Step}
use Rattle.mk_words.specs.Cells.{CellState, cell_answer, cell_after}
use Rattle.mk_words.specs.Journals.{EachAnswered}
use Rattle.mk_quorum.specs.Sizes.{members}
use Rattle.mk_model.specs.ColumnState.{Setting, ColumnState, Work, numbers_from}
use Rattle.mk_model.specs.ColumnState.Work.{Idle}
use Rattle.mk_model.specs.Conditions.{blocked}
use Rattle.mk_model.specs.Steps.{column_after}
use Rattle.mk_model.specs.Logs.{LogReplays, EachEnabled, column_through}
use Rattle.mk_model.specs.GlobalAnswers.{global_answer}
use Rattle.mk_history.specs.declared.RoundLog.{RoundLog}
use Rattle.mk_history.specs.Histories.{History, log_of, journal_of}
use Rattle.mk_history.specs.Matching.{Turn, turns_in_journal, turns_in_log}
use Rattle.mk_history.specs.Wholes.{WholeState, setting_of, column_of, cell_of, after_logs, after_global}
use Rattle.mk_history.specs.Legality.{IsLegalRound, EachGlobalAnswered}

-- of each number from r on, n of them, two functions give the same
at_or_above : (a b : ℕ) → b ≤ a → (a ≡ b) ⊎ (b + 1 ≤ a)
at_or_above a b le = grind (arith, le)

maps_agree : {X : Type 0} (f g : ℕ → X) (r n : ℕ) → map f (numbers_from r n) ≡ map g (numbers_from r n) → (c : ℕ) → r ≤ c → c < r + n → f c ≡ g c
maps_agree f g r zero e c low high = absurd (omega (arith, low, high))
maps_agree f g r (suc n) e c low high =
    let first : f r ≡ g r = cc in
    let rest : map f (numbers_from (r + 1) n) ≡ map g (numbers_from (r + 1) n) = cc in
    elim (at_or_above c r low) [
      | inl same ↦ subst (λ (k : ℕ). f k ≡ g k) (sym same) first
      | inr above ↦ maps_agree f g (r + 1) n rest c above (omega (arith, high))
    ]

-- a list for each number below n
abbrev pub each_below : {X : Type 0} → ℕ → (ℕ → X) → List X
each_below n f = map f (numbers_from 0 n)

pub below : {X : Type 0} (f g : ℕ → X) (n : ℕ) → each_below n f ≡ each_below n g → (c : ℕ) → c < n → f c ≡ g c
below f g n e c lt = maps_agree f g 0 n e c (omega arith) (omega (arith, lt))

-- what blocks each step of a log
abbrev pub blocks : Setting → ColumnState → List Step → List (Option ℕ)
blocks round column [] = []
blocks round column (step ∷ steps) = blocked round column step ∷ blocks round (column_after round column step) steps

-- that nothing does
abbrev pub unblocked : List Step → List (Option ℕ)
unblocked log = map (λ step. None) log

all_enabled : (round : Setting) (column : ColumnState) (log : List Step) → blocks round column log ≡ unblocked log → EachEnabled round column log
all_enabled round column [] e = tt
all_enabled round column (step ∷ steps) e =
    let first : blocked round column step ≡ None = cc in
    let rest : blocks round (column_after round column step) steps ≡ unblocked steps = cc in
    (first, all_enabled round (column_after round column step) steps rest)

-- what a cell answers along a journal
abbrev pub cell_answers : CellState → List JournalEntry → List Answer
cell_answers cell [] = []
cell_answers cell (entry ∷ journal) = cell_answer cell entry.act ∷ cell_answers (cell_after cell entry.act) journal

-- what the journal has
abbrev pub noted : List JournalEntry → List Answer
noted journal = map (λ entry. entry.answer) journal

all_answered : (cell : CellState) (journal : List JournalEntry) → cell_answers cell journal ≡ noted journal → EachAnswered cell journal
all_answered cell [] e = tt
all_answered cell (entry ∷ journal) e =
    let first : cell_answer cell entry.act ≡ entry.answer = cc in
    let rest : cell_answers (cell_after cell entry.act) journal ≡ noted journal = cc in
    (first, all_answered (cell_after cell entry.act) journal rest)

-- what the epoch machine answers along global lines
abbrev pub global_answers : History → WholeState → List GlobalEntry → List GlobalAnswer
global_answers run state [] = []
global_answers run state (entry ∷ entries) = global_answer state.epochs entry.line ∷ global_answers run (after_global run state entry) entries

-- what the lines have
abbrev pub told : List GlobalEntry → List GlobalAnswer
told entries = map (λ entry. entry.answer) entries

all_told : (run : History) (state : WholeState) (entries : List GlobalEntry) → global_answers run state entries ≡ told entries →
    EachGlobalAnswered run state entries
all_told run state [] e = tt
all_told run state (entry ∷ entries) e =
    let first : entry.answer ≡ global_answer state.epochs entry.line = cc in
    let rest : global_answers run (after_global run state entry) entries ≡ told entries = cc in
    (inl first, all_told run (after_global run state entry) entries rest)

-- of each column, replica and key in turn
abbrev pub by_key : {X : Type 0} → History → (ℕ → ℕ → X) → List (List X)
by_key run f = each_below (members run.faults) (λ r. each_below (length run.key_names) (λ key. f r key))

at_key : {X : Type 0} (run : History) (f g : ℕ → ℕ → X) → by_key run f ≡ by_key run g → (r key : ℕ) → r < members run.faults →
    key < length run.key_names → f r key ≡ g r key
at_key run f g e r key rs ks =
    let n = length run.key_names in
    below (f r) (g r) n
    (below (λ r. each_below n (λ key. f r key)) (λ r. each_below n (λ key. g r key)) (members run.faults) e r rs) key ks

-- what blocks the steps of a column's log
abbrev pub blocked_in : History → RoundLog → WholeState → ℕ → List (Option ℕ)
blocked_in run round state c = blocks (setting_of run state) (column_of state c) (log_of round c)

-- the column at the end of its log
abbrev pub work_at_end : History → RoundLog → WholeState → ℕ → Work
work_at_end run round state c = let column = column_through (setting_of run state) (column_of state c) (log_of round c) in column.work

-- what a key's cell answers, and what its journal has
abbrev pub answers_at : RoundLog → WholeState → ℕ → ℕ → List Answer
answers_at round state r key = cell_answers (cell_of state r key) (journal_of round r key)

abbrev pub noted_at : RoundLog → ℕ → ℕ → List Answer
noted_at round r key = noted (journal_of round r key)

-- a column's turns in the journals, and in its log
abbrev pub journal_turns : RoundLog → ℕ → ℕ → ℕ → List Turn
journal_turns round c r key = turns_in_journal c (journal_of round r key)

abbrev pub log_turns : RoundLog → ℕ → ℕ → ℕ → List Turn
log_turns round c r key = turns_in_log r key (log_of round c)

-- the trials of a round
pub record IsTried (run : History) (round : RoundLog) (state : WholeState) : Type 0 where
  pub enabled : each_below run.columns (blocked_in run round state) ≡ each_below run.columns (λ c. unblocked (log_of round c))
  pub ended : each_below run.columns (work_at_end run round state) ≡ each_below run.columns (λ c. Idle)
  pub answered : by_key run (answers_at round state) ≡ by_key run (noted_at round)
  pub matched : each_below run.columns (λ c. by_key run (journal_turns round c)) ≡ each_below run.columns (λ c. by_key run (log_turns round c))
  pub told : global_answers run (after_logs run round state) round.globals ≡ told round.globals

pub tried_is_legal : (run : History) (round : RoundLog) (state : WholeState) → IsTried run round state → IsLegalRound run round state
tried_is_legal run round state tried =
    record {
      logs = logs;
      journals = journals;
      matched = matched;
      globals = all_told run (after_logs run round state) round.globals tried.told;
    }
  where
    logs : (c : ℕ) → c < run.columns → LogReplays (setting_of run state) (column_of state c) (log_of round c)
    logs c lt =
        record {
          enabled =
              all_enabled (setting_of run state) (column_of state c) (log_of round c)
              (below (blocked_in run round state) (λ c. unblocked (log_of round c)) run.columns tried.enabled c lt);
          finished = below (work_at_end run round state) (λ c. Idle) run.columns tried.ended c lt;
        }

    journals : (r key : ℕ) → r < members run.faults → key < length run.key_names → EachAnswered (cell_of state r key) (journal_of round r key)
    journals r key rs ks =
        all_answered (cell_of state r key) (journal_of round r key) (at_key run (answers_at round state) (noted_at round) tried.answered r key rs ks)

    matched : (c r key : ℕ) → c < run.columns → r < members run.faults → key < length run.key_names → journal_turns round c r key ≡ log_turns round c r key
    matched c r key cs rs ks =
        at_key run (journal_turns round c) (log_turns round c)
        (below (λ c. by_key run (journal_turns round c)) (λ c. by_key run (log_turns round c)) run.columns tried.matched c cs) r key rs ks

-- names of one letter that differ
pub apart : (a b : ℕ) → Among (a ∷ []) (((a + suc b) ∷ []) ∷ []) → ⊥
apart a b (inl e) = let same : a + suc b ≡ a = cc in omega (arith, same)
apart a b (inr n) = absurd n
