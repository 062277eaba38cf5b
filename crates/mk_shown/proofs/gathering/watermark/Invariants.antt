use Rattle.std.proofs.Common.{◌≡◌}
use Rattle.mk_run.specs.Lines.{view_at}
use Rattle.mk_feed_words.specs.Feed.{least_over}
use Rattle.mk_shown.specs.Gathering.{mark_by}
use Rattle.mk_shown.proofs.gathering.watermark.Given as goal

-- the least over the columns so far
abbrev pub invariant-each : goal.invariant-each
invariant-each l = l.least ≡ least_over (λ c. mark_by l.walk l.client_columns c (view_at l.walk.whole.columns c).state) l.number
