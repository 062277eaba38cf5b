use Rattle.std.proofs.Common.{◌≡◌, ◌++◌, map, drop}
use Rattle.mk_merge.specs.Keepings.{handed_in}
use Rattle.mk_merge.proofs.handing.hand_in.Given as goal

abbrev pub invariant-loop-promise : goal.invariant-loop-promise
invariant-loop-promise g l = l.all.items ++ map (λ p. handed_in p.now) (drop l.promise-index l.promises) ≡ map (λ p. handed_in p.now) l.promises
