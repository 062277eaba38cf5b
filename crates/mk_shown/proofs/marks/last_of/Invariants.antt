use Rattle.std.proofs.Common.{◌≡◌, drop}
use Rattle.mk_feed_words.specs.MarkStamps.{last_of}
use Rattle.mk_shown.proofs.marks.last_of.Given as goal

-- that of the members from a place on
abbrev pub invariant-each : goal.invariant-each
invariant-each l = l.last ≡ last_of (drop l.place l.stamped) l.client
