-- A column's log over a round, and what happens to a column between two rounds.
use Rattle.std.specs.Prelude.{◌≡◌, ℕ, false, List, [], ◌∷◌, None, map, slice_set}
use Rattle.mk_words.specs.declared.Step.{Step}
use Rattle.mk_model.specs.ColumnState.{Setting, ColumnState, AttemptState}
use Rattle.mk_model.specs.ColumnState.Work.{Idle}
use Rattle.mk_model.specs.Conditions.{blocked}
use Rattle.mk_model.specs.Steps.{column_after}

-- the column to which the steps of a log lead
abbrev pub column_through : Setting → ColumnState → List Step → ColumnState
column_through round column [] = column
column_through round column (step ∷ steps) = column_through round (column_after round column step) steps

-- each step of a log is enabled in its turn
abbrev pub EachEnabled : Setting → ColumnState → List Step → Type 0
EachEnabled round column [] = Unit {0}
EachEnabled round column (step ∷ steps) = (blocked round column step ≡ None) × EachEnabled round (column_after round column step) steps

-- a log replays from a column where each step is enabled and no key call is wanted at the end
pub record LogReplays (round : Setting) (column : ColumnState) (log : List Step) : Type 0 where
  pub enabled : EachEnabled round column log
  pub finished : (column_through round column log).work ≡ Idle

-- an attempt that does not read any more
abbrev pub not_reading : AttemptState → AttemptState
not_reading attempt = record attempt { reading = false }

-- the end of a round ends all reading
abbrev pub reading_ended : ColumnState → ColumnState
reading_ended column = record column { attempts = map not_reading column.attempts }

-- a replica that adopted or was wiped has no entries and no marks
abbrev pub replica_reset : ℕ → ColumnState → ColumnState
replica_reset r column = record column { records = slice_set column.records r []; marks = slice_set column.marks r [] }
