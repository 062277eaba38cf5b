-- The lines to come give, behind those so far, all that are for the clients.
use Rattle.std.proofs.Common.{◌≡◌, ◌++◌, drop}
use Rattle.std.specs.Prelude.{filter}
use Rattle.mk_driver.specs.Driven.{is_for}
use Rattle.mk_driver.proofs.TakeoverList.of_clients.Given as goal

abbrev pub invariant-loop-line : goal.invariant-loop-line
invariant-loop-line l = l.lines.items ++ filter (is_for l.callers) (drop l.line-index l.self) ≡ filter (is_for l.callers) l.self
