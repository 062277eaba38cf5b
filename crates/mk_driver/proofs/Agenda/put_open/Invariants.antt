-- The takeovers before this place, before what was put, are all.
use Rattle.std.proofs.Common.{◌≡◌, ◌++◌, length}
use Rattle.std.specs.Prelude.{flat_map}
use Rattle.mk_model.specs.ColumnState.{numbers_from, open_at}
use Rattle.mk_driver.specs.Turns.{open_task}
use Rattle.mk_driver.proofs.Agenda.put_open.Given as goal

abbrev pub invariant-loop-place : goal.invariant-loop-place
invariant-loop-place l =
    flat_map (λ place. open_task (open_at l.column.state place)) (numbers_from 0 (length l.column.state.takeovers)) ++ l.fn.self
    ≡ flat_map (λ place. open_task (open_at l.column.state place)) (numbers_from 0 l.place) ++ l.self

abbrev pub decreases-loop-place : goal.decreases-loop-place
decreases-loop-place l = l.place
