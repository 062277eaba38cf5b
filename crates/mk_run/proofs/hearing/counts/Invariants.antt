use Rattle.std.proofs.Common.{◌≡◌, map, take}
use Rattle.mk_run.specs.News.{known_of}
use Rattle.mk_run.proofs.hearing.counts.Given as goal

abbrev pub invariant-loop-column : goal.invariant-loop-column
invariant-loop-column l = l.counts.items ≡ map known_of (take l.column-index l.columns)
