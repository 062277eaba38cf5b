use Rattle.std.proofs.Common.{◌≡◌, drop}
use Rattle.mk_model.specs.OneCopy.{with_writes}
use Rattle.mk_replay.proofs.one_copy.OneCopy.write.Given as goal

-- with the writes that are left it comes to all of them
abbrev pub invariant-loop-item : goal.invariant-loop-item
invariant-loop-item l = with_writes l.stamp (drop l.item-index l.writes) l.self-inside.versions.entries ≡ with_writes l.stamp l.writes l.fn.self
