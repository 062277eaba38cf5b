-- A run, as contracts see it.
use Rattle.std.specs.Prelude.{ℕ, ◌+◌, ◌==◌, List, [], ◌∷◌, slice_index_or, if◌then◌else◌}
use Rattle.mk_words.specs.declared.JournalEntry.{JournalEntry}
use Rattle.mk_words.specs.declared.Step.{Step}
use Rattle.mk_history.specs.declared.RoundLog.{RoundLog}

-- names are texts, as lists of bytes; clients are numbered from 1, and keys, columns and replicas from 0
pub record History : Type 0 where
  pub version : ℕ
  pub faults : ℕ
  pub columns : ℕ
  pub client_columns : List ℕ
  pub client_names : List (List ℕ)
  pub key_names : List (List ℕ)
  pub rounds : List RoundLog

-- the numbers of a column's clients; the first of the list has this number
abbrev pub clients_of : ℕ → ℕ → List ℕ → List ℕ
clients_of column number [] = []
clients_of column number (c ∷ columns) =
    if c == column then number ∷ clients_of column (number + 1) columns else clients_of column (number + 1) columns

-- the log of this column
abbrev pub log_of : RoundLog → ℕ → List Step
log_of round c = slice_index_or round.logs c []

-- the journal of this key at this replica
abbrev pub journal_of : RoundLog → ℕ → ℕ → List JournalEntry
journal_of round r key = slice_index_or (slice_index_or round.journals r []) key []
