use Rattle.std.proofs.Common.{◌≡◌, ◌==◌, drop}
use Rattle.std.specs.List.{list_any}
use Rattle.mk_merge.proofs.choosing.is_led.Given as goal

abbrev pub invariant-loop-promise : goal.invariant-loop-promise
invariant-loop-promise g l = list_any (λ p. p.replica == l.leader) (drop l.promise-index l.promises) ≡ list_any (λ p. p.replica == l.leader) l.promises
