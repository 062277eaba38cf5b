use Rattle.std.proofs.Common.{◌≡◌, take}
use Rattle.mk_run.specs.Judging.{HasReplayed}
use Rattle.mk_run.proofs.judge.outcomes.Given as goal

abbrev pub invariant-loop-round : goal.invariant-loop-round
invariant-loop-round l = record {
  was : HasReplayed l.run l.watch (take l.round-index l.run.rounds);
  items : l.round-items ≡ l.run.rounds;
}
