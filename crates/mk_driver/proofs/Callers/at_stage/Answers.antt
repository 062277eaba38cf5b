use Rattle.std.proofs.Common.{◌∙◌, sym, refl}
use Rattle.mk_driver.specs.Stages.{at_stage}
use Rattle.mk_driver.proofs.CallerLaws.{set-as, rising-as, change-none}
use Rattle.mk_driver.proofs.Callers.at_stage.Goals as goal

pub invariant_of-self : goal.invariant_of-self
invariant_of-self c =
    rising-as c.self.inside.list.items c.args.self.now c.in-Some.place c.index_mut.result.now _ c.self.view_is c.self.invariant c.in-Some.ensures.within c.index_mut.ensures.value refl

pub returns-in-Some : goal.returns-in-Some
returns-in-Some c =
    set-as c.self.inside.list.items c.args.self.now c.in-Some.place (at_stage c.args.stage) c.index_mut.result.now _ c.self.view_is c.index_mut.ensures.value refl
    ∙ sym (c.in-Some.ensures.changed (at_stage c.args.stage) c.index_mut.result.now)

pub returns-in_default : goal.returns-in_default
returns-in_default c = sym (change-none c.args.number (at_stage c.args.stage) c.args.self.now c.in_default.ensures.none)
