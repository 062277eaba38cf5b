-- The marks of the columns so far.
use Rattle.std.proofs.Common.{◌≡◌, drop}
use Rattle.std.specs.Prelude.{fold}
use Rattle.mk_txn.specs.MarkMaps.{joined_marks}
use Rattle.mk_model.specs.ColumnState.{marks_at}
use Rattle.mk_history.specs.Wholes.{marks_of}
use Rattle.mk_state.specs.Handing.{states_in}
use Rattle.mk_state.proofs.handing.marks_at.Given as goal

abbrev pub invariant-loop-column : goal.invariant-loop-column
invariant-loop-column l =
    marks_of (states_in l.columns) l.replica ≡ fold (λ marks column. joined_marks marks (marks_at column l.replica)) l.all (states_in (drop l.column-index l.columns))
