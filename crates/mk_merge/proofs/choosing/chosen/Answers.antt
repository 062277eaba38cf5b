use Rattle.std.proofs.Common.{ap}
use Rattle.mk_merge.proofs.ChoosingLaws.{chosen-both, states_of}
use Rattle.mk_merge.proofs.choosing.chosen.Goals as goal

pub returns : goal.returns
returns g c = chosen-both _ _ _ _ _ _ _ _ c.n.ensures c.f.ensures.value (ap states_of c.new-found.ensures.items) c.in_ok-add_some.ensures c.in_ok-add_some-2.ensures
