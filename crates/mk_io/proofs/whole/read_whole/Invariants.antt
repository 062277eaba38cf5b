-- What was read so far is what the source gave, and there is room for it.
use Rattle.std.proofs.Common.{◌≡◌, ◌-◌, ◌≤◌, vec_len}
use Rattle.std.specs.Io.KnownBytes.{Consumes}
use Rattle.mk_io.proofs.whole.read_whole.Given as goal

abbrev pub invariant-loop-size : goal.invariant-loop-size
invariant-loop-size g l =
    (vec_len l.bytes ≤ l.limit)
    × Consumes (g.S.Source.left l.initial.source) (g.S.Source.left l.source) l.bytes.items
    × (g.S.Source.faults l.source ≡ g.S.Source.faults l.initial.source)

abbrev pub decreases-loop-size : goal.decreases-loop-size
decreases-loop-size g l = l.limit - vec_len l.bytes
