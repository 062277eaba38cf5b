use Rattle.std.proofs.Common.{◌≡◌, replicate}
use Rattle.mk_merge_laws.specs.Lefts.{nothing_left}
use Rattle.mk_merge.proofs.rebuilding.nothing_at.Given as goal

abbrev pub invariant-loop : goal.invariant-loop
invariant-loop l = l.lefts.items ≡ replicate l.counter nothing_left
