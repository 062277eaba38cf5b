-- The rounds so far were run.
use Rattle.std.proofs.Common.{◌≡◌, ◌≤◌, length}
use Rattle.mk_store.proofs.RunLaws.{HasRun}
use Rattle.mk_store.proofs.run.run_script.Given as goal

abbrev pub invariant-loop-lines : goal.invariant-loop-lines
invariant-loop-lines g l = record {
  run : HasRun g.W.EpochWord.kept g.W.EpochWord.faults l.script l.fn.words l.store l.attempts l.rounds.items l.words;
  count : length l.rounds.items ≡ l.lines-index;
  within : length l.rounds.items ≤ length l.script.rounds;
  items : l.lines-items ≡ l.script.rounds;
}
