use Rattle.std.proofs.Common.{refl}
use Rattle.mk_driver.specs.Stages.{resting}
use Rattle.mk_driver.proofs.CallerLaws.{set-here, rising-as}
use Rattle.mk_driver.proofs.Callers.rest.Goals as goal

pub invariant_of-self : goal.invariant_of-self
invariant_of-self c =
    rising-as c.self.inside.list.items c.args.self.now c.args.place c.index_mut.result.now _ c.self.view_is c.self.invariant c.requires c.index_mut.ensures.value refl

pub returns-clause-rests : goal.returns-clause-rests
returns-clause-rests c =
    λ caller there. set-here c.self.inside.list.items c.args.self.now c.args.place resting c.index_mut.result.now _ caller c.self.view_is c.self.invariant c.index_mut.ensures.value refl there
