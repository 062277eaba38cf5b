use Rattle.std.proofs.Common.{◌∙◌, ◌≤◌, ap, subst, length}
use Rattle.mk_driver.proofs.RoundLaws.{put-all}
use Rattle.mk_driver.proofs.rounds.put_lines.Goals as goal

pub returns : goal.returns
returns c =
    put-all c.args.callers.now.items c.loop-caller.caller-items c.args.callers.now.len c.loop-caller.caller-index c.args.lists.items c.loop-caller.left.items
    c.args.callers.now.ok.0 (c.loop-caller.auto.caller-items ∙ ap (λ cs. length cs) c.deref_mut-caller-items.ensures.value)
    (subst (λ cs. length cs ≤ c.loop-caller.caller-index) c.deref_mut-caller-items.ensures.value c.loop-caller-test.false) c.loop-caller.invariant
