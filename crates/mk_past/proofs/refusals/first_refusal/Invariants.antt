-- No check was refused so in the rounds so far.
use Rattle.std.proofs.Common.{◌≡◌, ◌+◌, drop}
use Rattle.mk_past.specs.Refusals.{refusal_in_rounds}
use Rattle.mk_past.proofs.refusals.first_refusal.Given as goal

abbrev pub invariant-each : goal.invariant-each
invariant-each l =
    refusal_in_rounds l.stamp l.conflict l.replicas 1 l.rounds ≡ refusal_in_rounds l.stamp l.conflict l.replicas (l.index + 1) (drop l.index l.rounds)
