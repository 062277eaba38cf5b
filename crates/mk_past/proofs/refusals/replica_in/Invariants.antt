-- No check was refused so at the replicas so far.
use Rattle.mk_past.specs.Refusals.{refusal_at}
use Rattle.mk_past.proofs.FirstLaws.{FromSoFar}
use Rattle.mk_past.proofs.refusals.replica_in.Given as goal

abbrev pub invariant-each : goal.invariant-each
invariant-each l = FromSoFar (refusal_at l.stamp l.conflict l.number l.round) l.replicas l.replica
