-- The replicas so far are matched.
use Rattle.std.proofs.Common.{map, length}
use Rattle.mk_whole.specs.Matches.{unmatched_replica}
use Rattle.mk_whole.proofs.FromLaws.{FromSoFar}
use Rattle.mk_whole.proofs.matching.match_journals.Given as goal

abbrev pub invariant-loop-replica : goal.invariant-loop-replica
invariant-loop-replica l = FromSoFar (unmatched_replica l.columns (map (λ row. map (λ journal. journal.items) row.items) l.journals) l.turns) (length l.journals) l.replica
