-- The replicas so far are seen.
use Rattle.std.proofs.Common.{◌≡◌, take}
use Rattle.mk_model.specs.EpochState.{EpochState, views_of}
use Rattle.mk_epoch.specs.Standing.{StandsFor}
use Rattle.mk_state.proofs.whole.views.Given as goal

abbrev pub invariant-loop-replica : goal.invariant-loop-replica
invariant-loop-replica g l = (state : EpochState) → StandsFor g.K.Keeping.stands l.replicas state → l.views.items ≡ take l.replica (views_of state)
