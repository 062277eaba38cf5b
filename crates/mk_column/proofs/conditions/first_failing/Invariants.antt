use Rattle.std.proofs.Common.{◌≡◌, ◌+◌, ◌≤◌, drop, length}
use Rattle.mk_model.specs.Conditions.{first_failing}
use Rattle.mk_column.proofs.conditions.first_failing.Given as goal

-- the tests so far passed
abbrev pub invariant-loop-test : goal.invariant-loop-test
invariant-loop-test l =
    (l.number ≡ l.test-index + 2) × (l.test-index ≤ length l.tests) × (first_failing 2 l.tests ≡ first_failing l.number (drop l.test-index l.tests))
