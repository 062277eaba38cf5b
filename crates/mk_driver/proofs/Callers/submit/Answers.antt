use Rattle.std.proofs.Common.{◌∙◌, sym, subst, ap}
use Rattle.mk_driver.specs.Keeping.{IsRising, numbers_of}
use Rattle.mk_driver.specs.RisingNumbers.{asked_numbers}
use Rattle.mk_driver.proofs.RoundLaws.{submitted}
use Rattle.mk_driver.proofs.Callers.submit.Goals as goal

pub invariant_of-self : goal.invariant_of-self
invariant_of-self c =
    let all = c.put_lines.ensures ∙ submitted c.args.submissions.now c.self.inside.list.items c.args.self.now c.in_ok-lists.lists.items c.self.view_is c.in_ok-lists.ensures in
    subst IsRising (sym (ap numbers_of all ∙ asked_numbers c.args.submissions.now c.args.self.now))
    (subst (λ xs. IsRising (numbers_of xs)) c.self.view_is c.self.invariant)

pub returns-clause-ok : goal.returns-clause-ok
returns-clause-ok c =
    c.put_lines.ensures ∙ submitted c.args.submissions.now c.self.inside.list.items c.args.self.now c.in_ok-lists.lists.items c.self.view_is c.in_ok-lists.ensures
