-- The lines so far were done.
use Rattle.mk_history.specs.Histories.{History}
use Rattle.mk_history.specs.Wholes.{WholeState}
use Rattle.mk_whole.specs.Standings.{LinesMayBeDone}
use Rattle.mk_whole.proofs.LinesInTurn.{LinesDone}
use Rattle.mk_whole.proofs.globals.replay_globals.Given as goal

abbrev pub invariant-loop-place : goal.invariant-loop-place
invariant-loop-place l = (run : History) (state : WholeState) → LinesMayBeDone run state l.fn.whole l.entries → LinesDone run state l.entries l.place l.whole
