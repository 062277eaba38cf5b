use Rattle.mk_driver.specs.Stages.{begun}
use Rattle.mk_driver.proofs.CallerLaws.{set-here, rising-as, there-within}
use Rattle.mk_driver.proofs.Callers.begin.Goals as goal

pub invariant_of-self-2 : goal.invariant_of-self-2
invariant_of-self-2 c =
    rising-as c.self.inside.list.items c.args.self.now c.args.place c.index_mut.result.now c.begin.new.self c.self.view_is c.self.invariant (there-within c.args.place c.args.self.now _ c.requires) c.index_mut.ensures.value c.begin.ensures.number

pub returns-clause-ok : goal.returns-clause-ok
returns-clause-ok c =
    λ caller there. set-here c.self.inside.list.items c.args.self.now c.args.place (begun c.args.seq) c.index_mut.result.now c.begin.new.self caller c.self.view_is c.self.invariant c.index_mut.ensures.value c.in_ok-begin.ensures.ok there
