-- The views so far.
use Rattle.std.proofs.Common.{◌≡◌, take}
use Rattle.mk_state.proofs.beginning.copy_views.Given as goal

abbrev pub invariant-loop-view : goal.invariant-loop-view
invariant-loop-view l = l.copy.items ≡ take l.view-index l.views
