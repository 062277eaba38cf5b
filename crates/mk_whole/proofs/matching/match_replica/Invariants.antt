-- The keys so far are matched.
use Rattle.std.proofs.Common.{map, length}
use Rattle.mk_whole.specs.Matches.{unmatched_key}
use Rattle.mk_whole.proofs.FromLaws.{FromSoFar}
use Rattle.mk_whole.proofs.matching.match_replica.Given as goal

abbrev pub invariant-loop-key : goal.invariant-loop-key
invariant-loop-key l = FromSoFar (unmatched_key l.columns (map (λ journal. journal.items) l.journals) l.turns l.replica) (length l.journals) l.key
