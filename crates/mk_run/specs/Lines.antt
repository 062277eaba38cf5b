-- The lines that are made of columns as they are kept, and of what was learned first.
use Rattle.std.specs.Prelude.{ℕ, ◌+◌, List, [], ◌∷◌, ◌++◌, Option, option_map, unwrap_or, slice_index_or}
use Rattle.mk_txn.specs.declared.TxnId.{TxnId}
use Rattle.mk_txn.specs.declared.Outcome.{Outcome}
use Rattle.mk_column.specs.ColumnByCode.{ColumnView, column_at_start}
use Rattle.mk_history.specs.declared.Path.{Path}
use Rattle.mk_history.specs.declared.Path.TheVariants.{Fast}
use Rattle.mk_run.specs.declared.firsts.FirstLearning.{FirstLearning}
use Rattle.mk_run.specs.declared.line.AttemptLine.{AttemptLine}
use Rattle.mk_run.specs.Attempts.{lines_from, begun_by}
use Rattle.mk_run.specs.Firsts.{first_in}

-- its outcome, and its path; one by which no path is named never comes first in a legal run
abbrev pub told_by : FirstLearning → Outcome × Path
told_by first = (first.outcome, unwrap_or first.path Fast)

-- what was learned first of an attempt
abbrev pub first_told : List FirstLearning → TxnId → Option (Outcome × Path)
first_told firsts id = option_map told_by (first_in id firsts)

-- the lines of a client of this column
abbrev pub lines_of_client : List FirstLearning → ColumnView → ℕ → List AttemptLine
lines_of_client firsts column client = lines_from column.setting.faults (first_told firsts) column.state client 1 (begun_by column.state client)

-- the column of this number, and one without clients where there is none
abbrev pub view_at : List ColumnView → ℕ → ColumnView
view_at columns c = slice_index_or columns c (column_at_start 0 (record { version = 1; faults = 0; keys = 0; views = [] }) [])

-- the lines of these clients, the first of which has this number; each has the number of its column
abbrev pub lines_of_views : List FirstLearning → List ColumnView → ℕ → List ℕ → List AttemptLine
lines_of_views firsts columns client [] = []
lines_of_views firsts columns client (c ∷ numbers) =
    lines_of_client firsts (view_at columns c) client ++ lines_of_views firsts columns (client + 1) numbers
