use Rattle.mk_epoch.proofs.KeepLaws.{lost_kept, lost_now}
use Rattle.mk_epoch.proofs.replicas.Replicas.keep_lost.Goals as goal

pub invariant_of-self : goal.invariant_of-self
invariant_of-self g c = lost_kept _ c.args.self.now c.self.view_is c.self.invariant 0 c.args.replica c.index_mut.result.now c.requires c.index_mut.ensures.value c.args.empty c.lose.new.self c.lose.ensures

pub returns : goal.returns
returns g c = lost_now _ c.args.self.now c.self.view_is c.self.invariant 0 c.args.replica c.index_mut.result.now c.requires c.index_mut.ensures.value c.args.empty c.lose.new.self c.lose.ensures
