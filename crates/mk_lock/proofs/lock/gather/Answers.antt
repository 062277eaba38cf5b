use Rattle.std.proofs.Common.{rules, ◌∷◌, ◌++◌, List, ap, ◌∙◌}
use Rattle.atomic_table.specs.Table.{Me}
use Rattle.mk_lock.specs.declared.view.View.{View}
use Rattle.mk_lock.specs.Entries.{JournalState}
use Rattle.mk_lock.specs.Seats.{SeatView}
use Rattle.mk_lock.proofs.StepLaws.{gathers}
use Rattle.mk_lock.proofs.SeatLaws.{next_lock, next_gone, gathered_more}
use Rattle.mk_lock.proofs.lock.gather.Goals as goal

pub join_seat-requires : goal.join_seat-requires
join_seat-requires c =
    let known = c.loop-seat.invariant.gathered in
    let before = known.1 ∙ ap (λ (l : List SeatView). l ++ known.0) c.in-Some-pop.ensures.items in (
      c.into_token-earlier.ensures.0 ∙ next_lock _ _ _ _ known.0 c.requires.table.1 before,
      search rules,
      ap (λ (m : Me JournalState View). m.1) known.2,
      search rules,
      gathers _ _ _ _ _ (ap (λ (m : Me JournalState View). m.0.stage) c.into_token-earlier.ensures.1) (ap (λ (m : Me JournalState View). m.0.stage) known.2),
    )

pub loop-seat-preserved : goal.loop-seat-preserved
loop-seat-preserved c =
    let known = c.loop-seat.invariant.gathered in
    let before = known.1 ∙ ap (λ (l : List SeatView). l ++ known.0) c.in-Some-pop.ensures.items in record {
      table = c.join_seat.ensures.0 ∙ (c.into_token-earlier.ensures.0 ∙ next_lock _ _ _ _ known.0 c.requires.table.1 before);
      gathered = (
        c.in-Some-pop.seat ∷ known.0,
        next_gone _ _ c.in-Some-pop.seat known.0 before,
        gathered_more c.in-Some-pop.seat known.0 _ _ _ c.into_token-earlier.ensures.1 known.2 c.join_seat.ensures.2,
      );
    }
