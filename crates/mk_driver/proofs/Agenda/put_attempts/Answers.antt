use Rattle.std.proofs.Common.{◌∙◌, ◌-◌, ◌++◌, ℕ, List, sym, ap, take, arith}
use Rattle.std.specs.Prelude.{flat_map}
use Rattle.mk_driver.specs.declared.Task.{Task}
use Rattle.mk_driver.specs.Turns.{attempt_tasks}
use Rattle.mk_driver.proofs.PartLaws.{callers-down}
use Rattle.mk_driver.proofs.Agenda.put_attempts.Goals as goal

pub loop-place-preserved : goal.loop-place-preserved
loop-place-preserved c =
    let f : ℕ → List Task = attempt_tasks c.args.column.now.state c.args.part in (
      omega (arith, c.loop-place.invariant.0),
      c.loop-place.invariant.1
          ∙ callers-down f c.loop-place.place c.args.callers.now c.loop-place.self c.loop-place-test.true c.loop-place.invariant.0
          ∙ ap (λ ts. flat_map (λ caller. f caller.number) (take (c.loop-place.place - 1) c.args.callers.now) ++ ts)
          (sym (c.in_ok-put_attempts_of.ensures ∙ ap (λ n. f n ++ c.loop-place.self) c.number_at.ensures)),
    )
