use Rattle.std.proofs.Common.{◌≡◌, ◌+◌, sum, take}
use Rattle.mk_proc.specs.Procedures.{stopped}
use Rattle.mk_proc.proofs.standard.sum.Given as goal

abbrev pub invariant-loop-value : goal.invariant-loop-value
invariant-loop-value l = l.total ≡ stopped (sum (take l.value-index l.values) + l.arg)
