use Rattle.std.proofs.Common.{◌≡◌}
use Rattle.mk_feed_words.specs.Feed.{least_over}
use Rattle.mk_follow.specs.Kept.{reached_at}
use Rattle.mk_follow.proofs.lane.least.Given as goal

abbrev pub invariant-loop-column : goal.invariant-loop-column
invariant-loop-column l = l.stamp ≡ least_over (reached_at l.lanes) l.column
