-- The index has some of the transactions, and those that are left follow them.
use Rattle.mk_words.specs.Bases.{in_stamp_order}
use Rattle.mk_report.specs.Commits.{commits_in}
use Rattle.mk_past.proofs.TableLaws.{IsIndexedSoFar}
use Rattle.mk_past.proofs.order.indexed.Given as goal

abbrev pub invariant-each : goal.invariant-each
invariant-each l = IsIndexedSoFar (in_stamp_order (commits_in l.lines)) l.past l.stamp-iterator
