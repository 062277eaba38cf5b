use Rattle.std.proofs.Common.{◌≡◌}
use Rattle.mk_lock_tests.proofs.acts.act_often.Given as goal

abbrev pub invariant-loop-turn : goal.invariant-loop-turn
invariant-loop-turn g l = (l.seat.lock ≡ l.initial.seat.lock) × (l.seat.number ≡ l.initial.seat.number)
