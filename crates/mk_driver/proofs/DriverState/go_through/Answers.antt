-- A pass in which a client did something: a further one begins.
use Rattle.std.proofs.Common.{◌∙◌, ◌-◌}
use Rattle.mk_driver.specs.Passes.{after_passes}
use Rattle.mk_driver.specs.Passing.{without_first}
use Rattle.mk_driver.proofs.PassesSuffice.{passes_left_next, pass_over_next}
use Rattle.mk_driver.proofs.DriverState.go_through.Goals as goal

pub loop-pass-preserved : goal.loop-pass-preserved
loop-pass-preserved c =
    let round = c.args.column.now.setting in
    let column = c.args.column.now.state in
    let driver = without_first c.one_pass.new.self in (
      (λ end. c.loop-pass.invariant.0 end
          ∙ c.in-Ended-true.ensures.comes (after_passes (2 - c.loop-pass.pass) round column) end
          ∙ passes_left_next round column c.loop-pass.pass c.in-Ended-true.field-0 driver c.in-Ended-true.field-0-test c.loop-pass-test.true end),
      (λ end. c.loop-pass.invariant.1 end
          ∙ c.in-Ended-true.ensures.comes (after_passes 2 round column) end
          ∙ pass_over_next round column c.in-Ended-true.field-0 driver c.in-Ended-true.field-0-test end),
      c.in-Ended-true.ensures.rest.0 ∙ c.loop-pass.invariant.2,
      c.in-Ended-true.ensures.rest.1 ∙ c.loop-pass.invariant.3,
    )
