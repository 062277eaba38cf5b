use Rattle.std.proofs.Common.{◌∙◌, ◌-◌, ◌∷◌, ◌++◌, sym, ap, map, take, arith}
use Rattle.mk_driver.specs.declared.Task.TheVariants.{Take}
use Rattle.mk_driver.proofs.RoundLaws.{takes-down}
use Rattle.mk_driver.proofs.Agenda.put_takes.Goals as goal

pub loop-place-preserved : goal.loop-place-preserved
loop-place-preserved c = (
  omega (arith, c.loop-place.invariant.0),
  c.loop-place.invariant.1
      ∙ takes-down c.loop-place.place c.args.numbers.now c.loop-place.self c.loop-place-test.true c.loop-place.invariant.0
      ∙ ap (λ ts. map (λ number. Take number) (take (c.loop-place.place - 1) c.args.numbers.now) ++ ts)
      (sym (c.in_ok-push.ensures.ok ∙ ap (λ n. Take n ∷ c.loop-place.self) c.at.ensures)),
)
