use Rattle.std.proofs.Common.{◌≡◌, take}
use Rattle.mk_report.specs.Commits.{commits_in}
use Rattle.mk_report.proofs.run_report.commits.Given as goal

abbrev pub invariant-each : goal.invariant-each
invariant-each l = l.txns.items ≡ commits_in (take l.line-index l.lines)
