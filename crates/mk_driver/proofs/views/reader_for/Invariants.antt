-- The replicas to come, in cyclic order, have the first that serves.
use Rattle.std.proofs.Common.{◌≡◌, ◌+◌, ◌-◌, ◌%◌, map, find}
use Rattle.std.specs.Prelude.{slice_get}
use Rattle.mk_quorum.specs.Sizes.{members}
use Rattle.mk_quorum.specs.Slots.{passes}
use Rattle.mk_model.specs.ColumnState.{numbers_from}
use Rattle.mk_model.specs.Conditions.{heard_by, serves_from}
use Rattle.mk_driver.specs.Stages.{reader_for as first_reader}
use Rattle.mk_driver.proofs.views.reader_for.Given as goal

abbrev pub invariant-loop-places : goal.invariant-loop-places
invariant-loop-places l =
    first_reader l.column.setting l.home (heard_by l.column.state l.client)
    ≡ find (λ r. passes (serves_from (heard_by l.column.state l.client)) (slice_get l.column.setting.views r))
    (map (λ i. (l.home + i) % members l.size) (numbers_from l.places (members l.size - l.places)))
