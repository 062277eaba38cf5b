use Rattle.mk_epoch.proofs.KeepLaws.{asked_kept, asked_now}
use Rattle.mk_epoch.proofs.replicas.Replicas.keep_asked.Goals as goal

pub invariant_of-self-2 : goal.invariant_of-self-2
invariant_of-self-2 g c = asked_kept _ c.args.epoch c.grow.new.changes.items c.index_mut.result.now c.ask.new.self c.in_ok-grow.ensures.ok c.index_mut.ensures.value c.ask.ensures c.self.invariant

pub returns-clause-ok : goal.returns-clause-ok
returns-clause-ok g c = asked_now _ c.args.epoch c.grow.new.changes.items c.index_mut.result.now c.ask.new.self c.in_ok-grow.ensures.ok c.index_mut.ensures.value c.ask.ensures c.args.self.now c.self.view_is
