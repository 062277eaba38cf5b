-- The lines so far, and those to come, ask for all.
use Rattle.std.proofs.Common.{◌≡◌, ◌++◌, drop, map}
use Rattle.mk_driver.specs.Driven.{submitted_by}
use Rattle.mk_driver.proofs.Submissions.of.Given as goal

abbrev pub invariant-loop-line : goal.invariant-loop-line
invariant-loop-line l = l.list.items ++ map (submitted_by l.retry) (drop l.line-index l.lines) ≡ map (submitted_by l.retry) l.lines
