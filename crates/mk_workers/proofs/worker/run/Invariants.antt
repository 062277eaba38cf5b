use Rattle.std.proofs.Common.{List}
use Rattle.mk_words.specs.declared.Step.{Step}
use Rattle.mk_workers.specs.Going.{HasGone}
use Rattle.mk_workers.specs.Seating.{locks_of}
use Rattle.mk_workers.specs.Turns.{IsAtWork}
use Rattle.mk_workers.proofs.worker.run.Given as goal

abbrev pub invariant-loop : goal.invariant-loop
invariant-loop g l = record {
  fits : IsAtWork g.O.Outlet.suits l.shared.rules.now l.shared.replicas l.shared.keys (locks_of l.shared.locks.now) l.worker;
  gone : (more : List Step) × HasGone l.shared.rules.now l.fn.worker.driver l.worker.driver l.fn.worker.column l.worker.column more;
  kept : g.O.Outlet.kept l.fn.worker.outlet l.worker.outlet;
}
