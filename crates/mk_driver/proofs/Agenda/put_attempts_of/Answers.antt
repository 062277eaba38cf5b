use Rattle.std.proofs.Common.{◌∙◌, ◌-◌, ◌++◌, ℕ, List, sym, ap}
use Rattle.std.specs.Prelude.{flat_map}
use Rattle.mk_model.specs.ColumnState.{numbers_from}
use Rattle.mk_driver.specs.declared.Task.{Task}
use Rattle.mk_driver.specs.Turns.{attempt_task}
use Rattle.mk_driver.proofs.PartLaws.{flat-down}
use Rattle.mk_driver.proofs.Agenda.put_attempts_of.Goals as goal

pub loop-seq-preserved : goal.loop-seq-preserved
loop-seq-preserved c =
    let f : ℕ → List Task = λ seq. attempt_task c.args.column.now.state c.args.part (record { client = c.args.client; seq = seq }) in
    c.loop-seq.invariant
    ∙ flat-down f 1 c.loop-seq.seq c.loop-seq.self c.loop-seq-test.true
    ∙ ap (λ ts. flat_map f (numbers_from 1 (c.loop-seq.seq - 1 - 1)) ++ ts) (sym (c.in_ok-put.ensures ∙ ap (λ ts. ts ++ c.loop-seq.self) c.attempt_task.ensures))
