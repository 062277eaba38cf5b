use Rattle.std.proofs.Common.{◌≡◌, take}
use Rattle.mk_proc.specs.Procedures.{greatest}
use Rattle.mk_proc.proofs.standard.max.Given as goal

abbrev pub invariant-loop-value : goal.invariant-loop-value
invariant-loop-value l = l.greatest ≡ greatest (take l.value-index l.values) l.arg
