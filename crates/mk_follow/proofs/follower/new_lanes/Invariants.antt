use Rattle.std.proofs.Common.{◌≡◌, [], length}
use Rattle.mk_lists.specs.Among.{Each}
use Rattle.mk_txn.specs.Stamps.{zero_stamp}
use Rattle.mk_follow.proofs.follower.new_lanes.Given as goal

-- a lane with no marks for each number so far
abbrev pub invariant-loop : goal.invariant-loop
invariant-loop l = (length l.lanes.items ≡ l.counter) × Each (λ lane. (lane.waiting.items ≡ []) × (lane.reached ≡ zero_stamp)) l.lanes.items
