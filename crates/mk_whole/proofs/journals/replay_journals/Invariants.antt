-- The journals so far are done.
use Rattle.std.proofs.Common.{map}
use Rattle.mk_state.specs.Cells.{states_of}
use Rattle.mk_whole.specs.Journals.{flaw_at_replica, keys_done}
use Rattle.mk_whole.proofs.PairLaws.{PairsSoFar}
use Rattle.mk_whole.proofs.journals.replay_journals.Given as goal

abbrev pub invariant-loop-replica : goal.invariant-loop-replica
invariant-loop-replica l =
    PairsSoFar keys_done flaw_at_replica (map (λ row. states_of row.items) l.fn.cells.items) (map (λ row. map (λ journal. journal.items) row.items) l.journals) l.replica
    (map (λ row. states_of row.items) l.cells.items)
