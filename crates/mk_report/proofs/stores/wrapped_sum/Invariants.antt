use Rattle.std.proofs.Common.{◌≡◌, ◌%◌, ◌^◌, take}
use Rattle.std.specs.Prelude.{sum}
use Rattle.mk_report.proofs.stores.wrapped_sum.Given as goal

abbrev pub invariant-each : goal.invariant-each
invariant-each l = l.sum ≡ sum (take l.n-index l.numbers) % 2 ^ 64
