use Rattle.std.proofs.Common.{◌≡◌, ◌<◌, ◌≤◌, ◌-◌, subst, arith, length, nat_lt, false}
use Rattle.std.specs.Prelude.{slice_index}
use Rattle.mk_driver.proofs.InOrder.{before-place, index-or}
use Rattle.mk_driver.proofs.Numbers.place_of.Goals as goal

pub returns-then-index-number-clause-before : goal.returns-then-index-number-clause-before
returns-then-index-number-clause-before c =
    let xs = c.self.inside.list.items in
    let last = c.loop-at.at - 1 in
    let within : last < length xs = omega (arith, c.loop-at.invariant.1, c.loop-at-test.true) in
    let low : slice_index xs last ≤ c.args.number = rw (← index-or last c.index.result.now xs within, ← c.index.ensures) c.if-index-number.true in
    λ k l. subst (λ ys. nat_lt c.args.number (slice_index ys k) ≡ false) c.self.view_is (before-place c.args.number last k xs c.self.invariant low within (omega (arith, l)))
