use Rattle.std.proofs.Common.{◌≡◌, ◌≤◌, take, count_by}
use Rattle.mk_quorum.specs.Slots.{passes}
use Rattle.mk_words.specs.Picks.{is_promise}
use Rattle.mk_takeover.proofs.promising.count_promises.Given as goal

abbrev pub invariant-loop-reply : goal.invariant-loop-reply
invariant-loop-reply l = (l.count ≤ l.reply-index) × (l.count ≡ count_by (passes is_promise) (take l.reply-index l.told))
