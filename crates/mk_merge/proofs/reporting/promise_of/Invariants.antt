use Rattle.std.proofs.Common.{◌≡◌, ◌==◌, drop}
use Rattle.std.specs.Prelude.{find}
use Rattle.mk_merge.proofs.reporting.promise_of.Given as goal

abbrev pub invariant-loop-promise : goal.invariant-loop-promise
invariant-loop-promise l = find (λ p. p.replica == l.r) (drop l.promise-index l.promises) ≡ find (λ p. p.replica == l.r) l.promises
