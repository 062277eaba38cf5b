-- The log so far is done.
use Rattle.mk_whole.proofs.LogLaws.{LogSoFar}
use Rattle.mk_whole.proofs.logs.replay_log.Given as goal

abbrev pub invariant-loop-place : goal.invariant-loop-place
invariant-loop-place l = LogSoFar l.number l.fn.column l.fn.turns l.log l.place l.column l.turns
