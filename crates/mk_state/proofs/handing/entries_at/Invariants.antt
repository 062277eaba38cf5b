-- The entries of the columns so far.
use Rattle.std.proofs.Common.{◌≡◌, ◌++◌, drop}
use Rattle.mk_history.specs.Wholes.{entries_of}
use Rattle.mk_state.specs.Handing.{states_in}
use Rattle.mk_state.proofs.handing.entries_at.Given as goal

abbrev pub invariant-loop-column : goal.invariant-loop-column
invariant-loop-column l = entries_of (states_in l.columns) l.replica ≡ l.all.items ++ entries_of (states_in (drop l.column-index l.columns)) l.replica
