use Rattle.mk_epoch.proofs.KeepLaws.{promised_kept, promised_now}
use Rattle.mk_epoch.proofs.replicas.Replicas.keep_promise.Goals as goal

pub invariant_of-self-2 : goal.invariant_of-self-2
invariant_of-self-2 g c =
    promised_kept _ c.args.self.now c.self.view_is c.self.invariant c.args.epoch c.args.replica c.index_mut-2.result.now c.requires.there c.index_mut-2.ensures.value
    c.index_mut.result.now c.promise.new.self c.requires.row c.index_mut.ensures.value c.args.promise c.pause.new.self c.requires.above c.pause.ensures c.in_ok-promise.ensures.ok

pub returns-clause-ok : goal.returns-clause-ok
returns-clause-ok g c =
    promised_now _ c.args.self.now c.self.view_is c.self.invariant c.args.epoch c.args.replica c.index_mut-2.result.now c.requires.there c.index_mut-2.ensures.value
    c.index_mut.result.now c.promise.new.self c.requires.row c.index_mut.ensures.value c.args.promise c.pause.new.self c.pause.ensures c.in_ok-promise.ensures.ok
