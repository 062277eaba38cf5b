use Rattle.std.proofs.Common.{◌≡◌, ◌≤◌, ◌-◌, ◌++◌}
use Rattle.mk_model.specs.ColumnState.{to_all}
use Rattle.mk_column.proofs.SendLaws.{still_sent}
use Rattle.mk_column.proofs.sending.send_to_all.Given as goal

-- what was sent, and what is still to be sent to the rest, is sent to all
abbrev pub invariant-loop-replica : goal.invariant-loop-replica
invariant-loop-replica l =
    (l.replica ≤ l.replica-end) × (l.replica-end - l.replica ≤ l.link.spare)
    ×
    (l.link.messages ++ still_sent l.replica (l.replica-end - l.replica) l.epoch l.id l.view l.body ≡ l.fn.link.messages ++ to_all l.fn.size l.epoch l.id l.view l.body)
