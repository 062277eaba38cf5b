-- What the columns have at a replica, and what a reset leaves.
use Rattle.std.specs.Prelude.{ℕ, List, map}
use Rattle.mk_model.specs.ColumnState.{ColumnState}
use Rattle.mk_model.specs.Logs.{replica_reset}
use Rattle.mk_column.specs.ColumnByCode.{ColumnView}

-- the states of the columns
abbrev pub states_in : List ColumnView → List ColumnState
states_in columns = map (λ column. column.state) columns

-- their numbers
abbrev pub numbers_in : List ColumnView → List ℕ
numbers_in columns = map (λ column. column.number) columns

-- a column at whose replica nothing is left
abbrev pub column_reset : ℕ → ColumnView → ColumnView
column_reset r column = record column { state = replica_reset r column.state }
