-- The logs so far are done.
use Rattle.std.proofs.Common.{◌≡◌, drop, map}
use Rattle.mk_whole.specs.Turns.{after_all_steps}
use Rattle.mk_whole.specs.Logs.{flaw_in_column, column_done}
use Rattle.mk_whole.proofs.PairLaws.{PairsSoFar}
use Rattle.mk_whole.proofs.logs.replay_logs.Given as goal

abbrev pub invariant-loop-place : goal.invariant-loop-place
invariant-loop-place l =
    PairsSoFar column_done flaw_in_column l.fn.columns.items (map (λ log. log.items) l.logs) l.place l.columns.items
    × (after_all_steps 0 l.fn.turns (map (λ log. log.items) l.logs) ≡ after_all_steps l.place l.turns (drop l.place (map (λ log. log.items) l.logs)))
