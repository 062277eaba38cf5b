use Rattle.mk_column.proofs.RoundLaws.{IsKept-quiet, round-view}
use Rattle.mk_column.proofs.GrownLaws.{round-grown}
use Rattle.mk_column.proofs.column.Column.begin_round.Goals as goal

pub invariant_of-self : goal.invariant_of-self
invariant_of-self c = rw (c.end_reading.ensures, c.end_reading-2.ensures) (IsKept-quiet _ _ _ c.self.invariant)

pub returns-clause-after : goal.returns-clause-after
returns-clause-after c = round-view c.args.self.now _ _ c.args.views.items _ _ c.end_reading.ensures c.end_reading-2.ensures _ _ _ _ _ c.self.view_is

pub returns-clause-grown : goal.returns-clause-grown
returns-clause-grown c =
    round-grown c.args.self.now _ c.args.views.items
    (round-view c.args.self.now _ _ c.args.views.items _ _ c.end_reading.ensures c.end_reading-2.ensures _ _ _ _ _ c.self.view_is)
