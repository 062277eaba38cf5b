use Rattle.std.proofs.Common.{◌≡◌, drop}
use Rattle.mk_merge_laws.specs.Adding.{put_fates}
use Rattle.mk_snap.proofs.merging.put_all.Given as goal

-- with those that are left it comes to all of them
abbrev pub invariant-loop-fated : goal.invariant-loop-fated
invariant-loop-fated l = put_fates (drop l.fated-index l.list) l.kept ≡ put_fates l.list l.fn.kept
