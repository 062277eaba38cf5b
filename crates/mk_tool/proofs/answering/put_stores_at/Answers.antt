use Rattle.std.specs.String.{string_bytes}
use Rattle.mk_past.specs.Pasts.{copy_at}
use Rattle.mk_tool.proofs.PastLaws.{line-next}
use Rattle.mk_tool.proofs.answering.put_stores_at.Goals as goal

pub each-preserved : goal.each-preserved
each-preserved c = λ commits past.
    line-next (copy_at c.args.stamp commits) (string_bytes c.each.out) (string_bytes c.put_held.new.out) _ c.each.name-iterator c.next.new.self (c.in-Some.name.now, c.in-Some.number.now) c.at-value.result.0 c.at-value.result.1
    c.in-Some.ensures.steps (c.at-value.ensures.version commits past) (c.at-value.ensures.value commits past) c.in_ok-put_held.ensures (c.each.invariant commits past)
