-- None of the entries so far refuses so.
use Rattle.std.proofs.Common.{◌≡◌, ◌+◌, drop}
use Rattle.mk_past.specs.Refusals.{refusal_in_journal}
use Rattle.mk_past.proofs.refusals.entry_in.Given as goal

abbrev pub invariant-each : goal.invariant-each
invariant-each l =
    refusal_in_journal l.stamp l.conflict l.round l.replica 1 l.journal ≡ refusal_in_journal l.stamp l.conflict l.round l.replica (l.place + 1) (drop l.place l.journal)
