-- The attempts up to this one, before what was put, are all that the client has.
use Rattle.std.proofs.Common.{◌≡◌, ◌-◌, ◌++◌}
use Rattle.std.specs.Prelude.{flat_map}
use Rattle.mk_model.specs.ColumnState.{numbers_from}
use Rattle.mk_driver.specs.Turns.{attempt_task}
use Rattle.mk_driver.proofs.Agenda.put_attempts_of.Given as goal

abbrev pub invariant-loop-seq : goal.invariant-loop-seq
invariant-loop-seq l =
    flat_map (λ seq. attempt_task l.column.state l.part (record { client = l.client; seq = seq })) (numbers_from 1 (l.next - 1)) ++ l.fn.self
    ≡ flat_map (λ seq. attempt_task l.column.state l.part (record { client = l.client; seq = seq })) (numbers_from 1 (l.seq - 1)) ++ l.self

abbrev pub decreases-loop-seq : goal.decreases-loop-seq
decreases-loop-seq l = l.seq
