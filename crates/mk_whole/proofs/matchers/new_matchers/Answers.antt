use Rattle.mk_whole.proofs.MatcherLaws.{more-none}
use Rattle.mk_whole.proofs.matchers.new_matchers.Goals as goal

pub loop-column-preserved : goal.loop-column-preserved
loop-column-preserved c =
    more-none c.loop-column._column c.loop-column.matchers.items c.push.new.self.items c.new.result c.in_ok-push.ensures.items c.new.ensures c.loop-column.invariant
