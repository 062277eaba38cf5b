-- The key steps of a column's log at a key are that column's entries in the key's journal.
use Rattle.std.specs.Prelude.{◌≡◌, ℕ, ◌<◌, ◌&&◌, ◌==◌, List, [], ◌∷◌, length, if◌then◌else◌}
use Rattle.mk_words.specs.declared.Act.{Act}
use Rattle.mk_words.specs.declared.Answer.{Answer}
use Rattle.mk_words.specs.declared.JournalEntry.{JournalEntry}
use Rattle.mk_quorum.specs.Sizes.{members}
use Rattle.mk_words.specs.declared.KeyCall.{KeyCall}
use Rattle.mk_words.specs.declared.Step.{Step}
use Rattle.mk_words.specs.declared.Step.TheVariants.{Key}
use Rattle.mk_history.specs.declared.RoundLog.{RoundLog}
use Rattle.mk_history.specs.Histories.{History, log_of, journal_of}

-- an act with its answer
pub record Turn : Type 0 where
  pub act : Act
  pub answer : Answer

-- a key step counts where it is at this key of this replica
abbrev pub with_turn : ℕ → ℕ → KeyCall → Answer → List Turn → List Turn
with_turn r key call answer turns =
    if call.replica == r && call.key == key then record { act = call.act; answer = answer } ∷ turns else turns

-- the key steps of a log at this key of this replica
abbrev pub turns_in_log : ℕ → ℕ → List Step → List Turn
turns_in_log r key [] = []
turns_in_log r key (Key call answer ∷ steps) = with_turn r key call answer (turns_in_log r key steps)
turns_in_log r key (step ∷ steps) = turns_in_log r key steps

-- the entries of this column in a journal
abbrev pub turns_in_journal : ℕ → List JournalEntry → List Turn
turns_in_journal c [] = []
turns_in_journal c (entry ∷ journal) =
    if entry.seat == c
    then record { act = entry.act; answer = entry.answer } ∷ turns_in_journal c journal
    else turns_in_journal c journal

-- for each column, replica and key these are the same, in order
abbrev pub IsMatched : History → RoundLog → Type 0
IsMatched run round =
    (c r key : ℕ) → c < run.columns → r < members run.faults → key < length run.key_names →
    turns_in_journal c (journal_of round r key) ≡ turns_in_log r key (log_of round c)
