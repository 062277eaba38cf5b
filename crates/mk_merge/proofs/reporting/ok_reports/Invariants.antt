use Rattle.std.proofs.Common.{◌≡◌, ◌≤◌}
use Rattle.mk_txn.specs.Outcomes.{is_ok_vote}
use Rattle.mk_quorum.specs.Counts.{count_below}
use Rattle.mk_quorum.specs.Slots.{passes}
use Rattle.mk_words.specs.Merging.{reported}
use Rattle.mk_merge.proofs.reporting.ok_reports.Given as goal

abbrev pub invariant-loop-r : goal.invariant-loop-r
invariant-loop-r l = (l.count ≡ count_below l.r (λ r. passes (λ e. passes is_ok_vote e.vote) (reported l.promises l.id r))) × (l.count ≤ l.r)
