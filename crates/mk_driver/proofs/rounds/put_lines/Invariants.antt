-- The clients so far have their lines, and the others get those that are left.
use Rattle.std.proofs.Common.{◌≡◌, ◌++◌, take, drop}
use Rattle.mk_driver.specs.Keeping.{with_lines}
use Rattle.mk_driver.proofs.rounds.put_lines.Given as goal

abbrev pub invariant-loop-caller : goal.invariant-loop-caller
invariant-loop-caller l =
    with_lines l.fn.lists.items l.fn.callers.items ≡ take l.caller-index l.caller-items ++ with_lines l.left.items (drop l.caller-index l.caller-items)
