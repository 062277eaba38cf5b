-- So many replicas so far.
use Rattle.std.proofs.Common.{◌≡◌, map, []}
use Rattle.std.specs.Prelude.{replicate}
use Rattle.mk_whole.proofs.turns.KeyTurns.new.Given as goal

abbrev pub invariant-loop-replica : goal.invariant-loop-replica
invariant-loop-replica l = map (λ replica. map (λ key. key.items) replica.items) l.table.items ≡ replicate l.replica (replicate l.keys [])
