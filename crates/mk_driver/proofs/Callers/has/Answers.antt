use Rattle.std.proofs.Common.{sym}
use Rattle.mk_driver.specs.Agenda.{is_caller}
use Rattle.mk_driver.proofs.RoundLaws.{any-at, any-none}
use Rattle.mk_driver.proofs.Callers.has.Goals as goal

pub returns-in-Some : goal.returns-in-Some
returns-in-Some c = sym (any-at (is_caller c.args.number) c.in-Some.field-0 c.args.self.now c.in-Some.ensures.within c.in-Some.ensures.found)

pub returns-in-None : goal.returns-in-None
returns-in-None c = sym (any-none (is_caller c.args.number) c.args.self.now c.in-None.ensures.none)
