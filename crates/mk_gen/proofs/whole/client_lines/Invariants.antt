use Rattle.std.proofs.Common.{◌≡◌}
use Rattle.mk_gen.specs.Generated.{client_lines}
use Rattle.mk_gen.proofs.whole.client_lines.Given as goal

abbrev pub invariant-each : goal.invariant-each
invariant-each l = l.lines.items ≡ client_lines l.client
