use Rattle.mk_merge.proofs.ChoosingLaws.{ComesToSome, states_of}
use Rattle.mk_merge.proofs.choosing.add_some.Given as goal

abbrev pub invariant-loop-promise : goal.invariant-loop-promise
invariant-loop-promise g l = ComesToSome l.leader l.leads l.fn.count l.promises l.promise-index (states_of l.fn.found.items) (states_of l.found.items) l.room
