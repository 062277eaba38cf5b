use Rattle.std.proofs.Common.{◌∙◌, ◌-◌, ◌++◌, ℕ, List, sym, ap}
use Rattle.std.specs.Prelude.{flat_map}
use Rattle.mk_model.specs.ColumnState.{numbers_from, open_at}
use Rattle.mk_driver.specs.declared.Task.{Task}
use Rattle.mk_driver.specs.Turns.{open_task}
use Rattle.mk_driver.proofs.PartLaws.{flat-zero}
use Rattle.mk_driver.proofs.Agenda.put_open.Goals as goal

pub loop-place-preserved : goal.loop-place-preserved
loop-place-preserved c =
    let f : ℕ → List Task = λ place. open_task (open_at c.args.column.now.state place) in
    c.loop-place.invariant
    ∙ flat-zero f c.loop-place.place c.loop-place.self c.loop-place-test.true
    ∙ ap (λ ts. flat_map f (numbers_from 0 (c.loop-place.place - 1)) ++ ts) (sym (c.in_ok-put.ensures ∙ ap (λ ts. ts ++ c.loop-place.self) c.takeover_task.ensures))
