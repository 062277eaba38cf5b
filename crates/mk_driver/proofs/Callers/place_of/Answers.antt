use Rattle.std.proofs.Common.{◌<◌, ◌+◌, ◌-◌, ◌/◌, ◌∙◌, sym, subst, arith, length}
use Rattle.mk_driver.specs.Keeping.{IsRising, numbers_of}
use Rattle.mk_driver.proofs.CallerLaws.{find-at, change-at, rising-le, none-here, length-numbers}
use Rattle.mk_driver.proofs.Callers.place_of.Goals as goal

pub returns-then-other-number-clause-found : goal.returns-then-other-number-clause-found
returns-then-other-number-clause-found c =
    let rises : IsRising (numbers_of c.args.self.now) = subst (λ xs. IsRising (numbers_of xs)) c.self.view_is c.self.invariant in
    let place = c.loop-low.low + (c.loop-low.high - c.loop-low.low) / 2 in
    let within : place < length c.args.self.now = omega (arith, c.loop-low-test.true, c.loop-low.invariant.0) in
    λ caller. find-at c.args.number place caller c.args.self.now rises within (sym c.number_at-other.ensures ∙ c.if-other-number.true)

pub returns-then-other-number-clause-changed : goal.returns-then-other-number-clause-changed
returns-then-other-number-clause-changed c =
    let rises : IsRising (numbers_of c.args.self.now) = subst (λ xs. IsRising (numbers_of xs)) c.self.view_is c.self.invariant in
    let place = c.loop-low.low + (c.loop-low.high - c.loop-low.low) / 2 in
    let within : place < length c.args.self.now = omega (arith, c.loop-low-test.true, c.loop-low.invariant.0) in
    λ f caller. change-at c.args.number place f caller c.args.self.now rises within (sym c.number_at-other.ensures ∙ c.if-other-number.true)

pub loop-low-preserved-then-other-number-2 : goal.loop-low-preserved-then-other-number-2
loop-low-preserved-then-other-number-2 c =
    let rises : IsRising (numbers_of c.args.self.now) = subst (λ xs. IsRising (numbers_of xs)) c.self.view_is c.self.invariant in
    let place = c.loop-low.low + (c.loop-low.high - c.loop-low.low) / 2 in
    let within : place < length (numbers_of c.args.self.now) = omega (arith, c.loop-low-test.true, c.loop-low.invariant.0, length-numbers c.args.self.now) in (
      c.loop-low.invariant.0,
      λ k l. let upto = rising-le k place (numbers_of c.args.self.now) rises (omega (arith, l)) within in omega (arith, upto, c.number_at-other.ensures, c.if-other-number-2.true),
      c.loop-low.invariant.2,
    )

pub loop-low-preserved : goal.loop-low-preserved
loop-low-preserved c =
    let rises : IsRising (numbers_of c.args.self.now) = subst (λ xs. IsRising (numbers_of xs)) c.self.view_is c.self.invariant in
    let place = c.loop-low.low + (c.loop-low.high - c.loop-low.low) / 2 in (
      omega (arith, c.loop-low-test.true, c.loop-low.invariant.0),
      c.loop-low.invariant.1,
      λ k l m. let from = rising-le place k (numbers_of c.args.self.now) rises l (omega (arith, m, length-numbers c.args.self.now)) in
          omega (arith, from, c.number_at-other.ensures, c.if-other-number.false, c.if-other-number-2.false),
    )

pub returns-clause-none : goal.returns-clause-none
returns-clause-none c =
    none-here c.args.number c.loop-low.low c.loop-low.high c.args.self.now c.loop-low-test.false c.loop-low.invariant.1 c.loop-low.invariant.2
