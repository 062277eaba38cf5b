use Rattle.std.proofs.Common.{◌≡◌, ◌++◌, drop}
use Rattle.mk_merge.proofs.Base.copied.Given as goal

abbrev pub invariant-loop-fated : goal.invariant-loop-fated
invariant-loop-fated l = l.list.items ++ drop l.fated-index l.fated-items ≡ l.fated-items
