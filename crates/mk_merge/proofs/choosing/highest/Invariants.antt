use Rattle.mk_merge.proofs.ChoosingLaws.{ComesToHighest}
use Rattle.mk_merge.proofs.choosing.highest.Given as goal

abbrev pub invariant-loop-promise : goal.invariant-loop-promise
invariant-loop-promise g l = ComesToHighest l.promises l.promise-index l.epoch
