-- The columns of a round, each with its log.
use Rattle.std.specs.Prelude.{ℕ, List, ◌++◌, Option}
use Rattle.mk_words.specs.declared.Step.{Step}
use Rattle.mk_model.specs.Logs.{column_through}
use Rattle.mk_column.specs.ColumnByCode.{ColumnView}
use Rattle.mk_verdict.specs.declared.PlacedFlaw.{PlacedFlaw}
use Rattle.mk_verdict.specs.Flaws.{flaw_of_log}

-- the flaw of this column's log
abbrev pub flaw_in_column : ℕ → ColumnView → List Step → Option PlacedFlaw
flaw_in_column c column log = flaw_of_log column.setting column.state c 1 log

-- the column after its log
abbrev pub column_done : ColumnView → List Step → ColumnView
column_done column log = record column { state = column_through column.setting column.state log; log = column.log ++ log }
