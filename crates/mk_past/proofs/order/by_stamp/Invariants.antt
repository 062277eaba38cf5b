-- The lines from a place on stand in the table.
use Rattle.std.proofs.Common.{◌≡◌, drop}
use Rattle.mk_words.specs.Bases.{in_stamp_order}
use Rattle.mk_report.specs.Commits.{commits_in}
use Rattle.mk_past.specs.Orders.{txns_told}
use Rattle.mk_past.proofs.order.by_stamp.Given as goal

abbrev pub invariant-each : goal.invariant-each
invariant-each l = txns_told l.table.entries ≡ in_stamp_order (commits_in (drop l.place l.lines))
