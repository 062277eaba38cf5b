-- The logs so far, which the columns no longer have.
use Rattle.std.proofs.Common.{◌≡◌, take, map}
use Rattle.mk_workers.specs.Worked.{logs_of}
use Rattle.mk_round.specs.Begun.{without_log}
use Rattle.mk_round.proofs.Loops.{AreChanging}
use Rattle.mk_round.proofs.taking.take_logs.Given as goal

abbrev pub invariant-loop-column : goal.invariant-loop-column
invariant-loop-column l = record {
  logs : map (λ log. log.items) l.logs.items ≡ logs_of (take l.column-index l.fn.columns.items);
  columns : AreChanging (λ old new. new ≡ without_log old) l.column-index l.fn.columns.items l.column-items;
}
