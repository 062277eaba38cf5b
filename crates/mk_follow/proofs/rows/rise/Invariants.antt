use Rattle.std.proofs.Common.{◌≡◌, false, not, count_by, length}
use Rattle.mk_txn.specs.Stamps.{is_before}
use Rattle.mk_feed_words.specs.Feed.{is_upto, txns_upto}
use Rattle.mk_follow.specs.Rows.{Shows}
use Rattle.mk_follow.proofs.rows.rise.Given as goal

-- the rows show the commits up to a stamp that is not above the new one
abbrev pub invariant-loop-next : goal.invariant-loop-next
invariant-loop-next l =
    record {
      wide : length l.rows.items ≡ 256;
      order : is_before l.high l.shown ≡ false;
      shows : Shows l.subscription (txns_upto l.shown l.commits.commits) l.rows.items;
    }

abbrev pub decreases-loop-next : goal.decreases-loop-next
decreases-loop-next l = count_by (λ r. not (is_upto l.shown r)) l.commits.commits
