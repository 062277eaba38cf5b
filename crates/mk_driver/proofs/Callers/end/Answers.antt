use Rattle.std.proofs.Common.{◌∙◌, sym}
use Rattle.mk_driver.specs.Delivery.{done_with}
use Rattle.mk_driver.proofs.CallerLaws.{set-as, rising-as, change-none}
use Rattle.mk_driver.proofs.Callers.end.Goals as goal

pub invariant_of-self : goal.invariant_of-self
invariant_of-self c =
    rising-as c.self.inside.list.items c.args.self.now c.in-Some.place c.index_mut.result.now c.end.new.self c.self.view_is c.self.invariant c.in-Some.ensures.within c.index_mut.ensures.value c.end.ensures.number

pub returns-in-Some : goal.returns-in-Some
returns-in-Some c =
    set-as c.self.inside.list.items c.args.self.now c.in-Some.place (done_with c.args.id.seq) c.index_mut.result.now c.end.new.self c.self.view_is c.index_mut.ensures.value c.end.ensures.done
    ∙ sym (c.in-Some.ensures.changed (done_with c.args.id.seq) c.index_mut.result.now)

pub returns-in_default : goal.returns-in_default
returns-in_default c = sym (change-none c.args.id.client (done_with c.args.id.seq) c.args.self.now c.in_default.ensures.none)
