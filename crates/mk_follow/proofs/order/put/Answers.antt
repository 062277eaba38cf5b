use Rattle.std.proofs.Common.{◌∙◌, ap, cond}
use Rattle.std.specs.Prelude.{is_ok}
use Rattle.std.specs.List.{insert}
use Rattle.mk_follow.specs.Orders.{count_upto}
use Rattle.mk_follow.proofs.OrderLaws.{placed-insert}
use Rattle.mk_follow.proofs.order.put.Goals as goal

pub returns : goal.returns
returns c =
    let order = c.args.order.now.items in
    c.insert.ensures.items
    ∙ ap (λ b. cond b (insert order c.upto-at.result (c.args.stamp, c.args.place)) order) (ap is_ok c.unwrap.ensures)
    ∙ ap (λ n. insert order n (c.args.stamp, c.args.place)) (c.upto-at.ensures.value ∙ ap (count_upto c.args.stamp) c.as_slice.ensures.value)
    ∙ placed-insert (c.args.stamp, c.args.place) order c.requires.ascending
