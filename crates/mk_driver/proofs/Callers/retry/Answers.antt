use Rattle.std.proofs.Common.{◌∙◌, sym}
use Rattle.mk_driver.specs.Delivery.{tried_again}
use Rattle.mk_driver.proofs.CallerLaws.{set-as, rising-as, change-none}
use Rattle.mk_driver.proofs.Callers.retry.Goals as goal

pub invariant_of-self : goal.invariant_of-self
invariant_of-self c =
    rising-as c.self.inside.list.items c.args.self.now c.in-Some.place c.index_mut.result.now c.retry.new.self c.self.view_is c.self.invariant c.in-Some.ensures.within c.index_mut.ensures.value c.retry.ensures.number

pub returns-in_ok-retry-in-Some-clause-ok : goal.returns-in_ok-retry-in-Some-clause-ok
returns-in_ok-retry-in-Some-clause-ok c =
    set-as c.self.inside.list.items c.args.self.now c.in-Some.place (tried_again c.args.id.seq) c.index_mut.result.now c.retry.new.self c.self.view_is c.index_mut.ensures.value c.in_ok-retry-in-Some.ensures.ok
    ∙ sym (c.in-Some.ensures.changed (tried_again c.args.id.seq) c.index_mut.result.now)

pub returns-in-None-clause-ok : goal.returns-in-None-clause-ok
returns-in-None-clause-ok c = sym (change-none c.args.id.client (tried_again c.args.id.seq) c.args.self.now c.in-None.ensures.none)
