use Rattle.std.proofs.Common.{◌≡◌, drop, map}
use Rattle.mk_txn.specs.Outcomes.{higher, highest}
use Rattle.mk_words.specs.Picks.{accepted_in}
use Rattle.mk_takeover.proofs.promising.highest_accepted.Given as goal

abbrev pub invariant-loop-reply : goal.invariant-loop-reply
invariant-loop-reply l = higher l.found (highest (map accepted_in (drop l.reply-index l.told))) ≡ highest (map accepted_in l.told)
