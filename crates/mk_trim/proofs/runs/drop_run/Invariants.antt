use Rattle.std.proofs.Common.{◌≡◌, ◌-◌, ◌≤◌, ◌&&◌, not}
use Rattle.mk_txn.specs.declared.TxnId.{TxnId}
use Rattle.mk_trim.specs.Runs.{follows}
use Rattle.mk_trim.specs.SettledAttempts.{holds}
use Rattle.mk_trim.proofs.runs.drop_run.Given as goal

-- those up to here are out
abbrev pub invariant-loop-seq : goal.invariant-loop-seq
invariant-loop-seq l =
    (l.id.seq ≤ l.seq)
    × (l.seq ≤ l.end)
    × ((other : TxnId) → holds l.ids.keys other ≡ (holds l.initial.ids.keys other && not (follows l.id l.seq other)))

abbrev pub decreases-loop-seq : goal.decreases-loop-seq
decreases-loop-seq l = l.end - l.seq
