use Rattle.mk_epoch.proofs.KeepLaws.{adopted_kept, adopted_now}
use Rattle.mk_epoch.proofs.replicas.Replicas.keep_adopted.Goals as goal

pub invariant_of-self : goal.invariant_of-self
invariant_of-self g c =
    adopted_kept _ c.args.self.now c.self.view_is c.self.invariant c.args.epoch c.args.replica c.index_mut.result.now c.requires.there c.index_mut.ensures.value
    c.index_mut-2.result.now c.adopt.new.self c.requires.row c.index_mut-2.ensures.value c.args.base c.requires.above c.adopt.ensures

pub returns-clause-kept : goal.returns-clause-kept
returns-clause-kept g c =
    adopted_now _ c.args.self.now c.self.view_is c.self.invariant c.args.epoch c.args.replica c.index_mut.result.now c.requires.there c.index_mut.ensures.value
    c.index_mut-2.result.now c.adopt.new.self c.requires.row c.index_mut-2.ensures.value c.args.base c.adopt.ensures
