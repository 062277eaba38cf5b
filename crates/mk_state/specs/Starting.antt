-- What there is before the first round.
use Rattle.std.specs.Prelude.{ℕ, List, []}
use Rattle.mk_column.specs.ColumnByCode.{ColumnView, column_at_start}
use Rattle.mk_history.specs.Histories.{clients_of}

-- the column of this number, with its clients
abbrev pub first_column : ℕ → List ℕ → ℕ → ℕ → ℕ → ColumnView
first_column f client_columns keys version c =
    column_at_start c (record { version = version; faults = f; keys = keys; views = [] }) (clients_of c 1 client_columns)
