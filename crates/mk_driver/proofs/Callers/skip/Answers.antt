use Rattle.mk_driver.specs.Stages.{without_request}
use Rattle.mk_driver.proofs.CallerLaws.{set-here, rising-as, there-within}
use Rattle.mk_driver.proofs.Callers.skip.Goals as goal

pub invariant_of-self : goal.invariant_of-self
invariant_of-self c =
    rising-as c.self.inside.list.items c.args.self.now c.args.place c.index_mut.result.now c.skip.new.self c.self.view_is c.self.invariant (there-within c.args.place c.args.self.now _ c.requires) c.index_mut.ensures.value c.skip.ensures.number

pub returns : goal.returns
returns c =
    λ caller there. set-here c.self.inside.list.items c.args.self.now c.args.place without_request c.index_mut.result.now c.skip.new.self caller c.self.view_is c.self.invariant c.index_mut.ensures.value c.skip.ensures.gone there
