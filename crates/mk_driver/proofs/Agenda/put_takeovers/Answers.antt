use Rattle.std.proofs.Common.{◌∙◌, ◌-◌, ◌∷◌, [], ◌++◌, List, sym, ap, take, arith}
use Rattle.std.specs.Prelude.{flat_map}
use Rattle.mk_script.specs.declared.lines.TakeoverLine.{TakeoverLine}
use Rattle.mk_driver.specs.declared.Task.{Task}
use Rattle.mk_driver.specs.declared.Task.TheVariants.{Takeover}
use Rattle.mk_driver.proofs.PartLaws.{lines-down}
use Rattle.mk_driver.proofs.Agenda.put_takeovers.Goals as goal

pub loop-place-preserved : goal.loop-place-preserved
loop-place-preserved c =
    let f : TakeoverLine → List Task = λ line. Takeover line.id line.view ∷ [] in (
      omega (arith, c.loop-place.invariant.0),
      c.loop-place.invariant.1
          ∙ lines-down f c.loop-place.place c.at-line.result c.args.takeovers.now c.loop-place.self c.loop-place-test.true c.at-line.ensures
          ∙ ap (λ ts. flat_map f (take (c.loop-place.place - 1) c.args.takeovers.now) ++ ts) (sym c.in_ok-push.ensures.ok),
    )
