use Rattle.std.proofs.Common.{◌∙◌, ◌++◌, ◌+◌, ◌-◌, List, ap}
use Rattle.mk_feed_words.specs.MarkStamps.{Stamped}
use Rattle.mk_shown.specs.Gathering.{closed_by, gathered_from}
use Rattle.mk_shown.proofs.GatherLaws.{gathered-next}
use Rattle.mk_shown.proofs.gathering.push_client.Goals as goal

pub each-preserved : goal.each-preserved
each-preserved c =
    let column = c.args.column.now.state in
    let closed = closed_by c.args.walk.now column in
    let seq = c.each.seq in
    let end = c.next_seq-seq-end.result in
    let later = gathered_from closed column c.args.client (seq + 1) (end - (seq + 1)) in
    ap (λ (xs : List Stamped). xs ++ later) c.in_ok-push_attempt.ensures
    ∙ gathered-next closed column c.args.client seq end c.each.stamped.items c.each-test.true
    ∙ c.each.invariant
