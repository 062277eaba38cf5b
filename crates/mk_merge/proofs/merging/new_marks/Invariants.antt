use Rattle.std.proofs.Common.{◌≡◌, drop}
use Rattle.mk_txn.specs.MarkMaps.{IsMarkMap}
use Rattle.mk_merge_laws.specs.Adding.{raised_marks}
use Rattle.mk_merge.proofs.merging.new_marks.Given as goal

abbrev pub invariant-loop-promise : goal.invariant-loop-promise
invariant-loop-promise l = (raised_marks l.marks (drop l.promise-index l.promises) ≡ raised_marks l.kept.marks l.promises) × IsMarkMap l.marks
