-- The columns so far, and those to come.
use Rattle.std.proofs.Common.{◌≡◌, ◌++◌, ◌-◌, map}
use Rattle.mk_model.specs.ColumnState.{numbers_from}
use Rattle.mk_state.specs.Starting.{first_column}
use Rattle.mk_state.proofs.starting.first_columns.Given as goal

abbrev pub invariant-loop-number : goal.invariant-loop-number
invariant-loop-number l =
    map (first_column l.size l.client_columns l.keys l.version) (numbers_from 0 l.columns)
    ≡ l.made.items ++ map (first_column l.size l.client_columns l.keys l.version) (numbers_from l.number (l.columns - l.number))
