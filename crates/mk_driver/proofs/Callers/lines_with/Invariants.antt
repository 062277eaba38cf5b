-- The lists so far, and those of the clients to come, are all.
use Rattle.std.proofs.Common.{◌≡◌, ◌++◌, drop, map}
use Rattle.mk_driver.specs.declared.Caller.{Caller}
use Rattle.mk_driver.specs.Driven.{asked_more}
use Rattle.mk_driver.proofs.Callers.lines_with.Given as goal

abbrev pub invariant-loop-caller : goal.invariant-loop-caller
invariant-loop-caller l =
    l.lists.items ++ map (λ (caller : Caller). (asked_more l.submissions caller).lines) (drop l.caller-index l.self)
    ≡ map (λ (caller : Caller). (asked_more l.submissions caller).lines) l.self
