use Rattle.std.proofs.Common.{◌≡◌, ◌∙◌, ◌++◌, ◌∷◌, [], length, refl, sym, ap, subst, arith}
use Rattle.std.specs.Prelude.{IsOk}
use Rattle.std.proofs.lemmas.List.{map-append}
use Rattle.mk_column.specs.ColumnByCode.{ColumnView}
use Rattle.mk_workers.specs.Seating.{locks_of, HasSeats, RowsHold}
use Rattle.mk_workers.specs.Worked.{logs_of}
use Rattle.mk_workers.proofs.Crewing.{ending_all, ending_first, ending_more, number_next, seats_next}
use Rattle.mk_workers.proofs.round.end_all.Goals as goal

pub give_column-requires-clause-seats : goal.give_column-requires-clause-seats
give_column-requires-clause-seats g c =
    let was = c.loop-worker in
    let ending = was.invariant.ending in
    let w = c.in-Some.worker in
    let locks = locks_of c.args.locks.now in
    let ok : IsOk w.ended = subst IsOk (sym c.in_ok-ended.was) refl in
    let number = number_next c.args.workers.items was.workers.items c.pop.new.self.items ending.0 was.columns.items was.drivers.items was.outlets.items w ending.1 c.in-Some.ensures.items c.requires.numbers ok in
    subst (λ n. HasSeats locks n w.column.log w.seats.items) (number ∙ ap length (sym c.deref.ensures.value))
    (seats_next c.args.workers.items was.workers.items c.pop.new.self.items ending.0 was.columns.items was.drivers.items was.outlets.items w locks ending.1 c.in-Some.ensures.items c.requires.seats ok)

pub loop-worker-preserved : goal.loop-worker-preserved
loop-worker-preserved g c =
    let was = c.loop-worker in
    let ending = was.invariant.ending in
    let w = c.in-Some.worker in
    let locks = locks_of c.args.locks.now in
    let ok : IsOk w.ended = subst IsOk (sym c.in_ok-ended.was) refl in
    record {
      ending = (
        w ∷ ending.0,
        ending_more c.args.workers.items was.workers.items c.pop.new.self.items ending.0 was.columns.items was.drivers.items was.outlets.items w
            c.push.new.self.items c.push-in-Some.new.self.items c.push-in-Some-2.new.self.items ending.1 c.in-Some.ensures.items ok
            c.in_ok-push.ensures.items c.in_ok-push-2.ensures.items c.in_ok-push-3.ensures.items,
      );
      rows = subst (λ logs. RowsHold locks logs c.give_column.new.rows)
          (ap (λ columns. logs_of columns ++ w.column.log ∷ []) c.deref.ensures.value
          ∙ (sym (map-append (λ (column : ColumnView). column.log) was.columns.items (w.column ∷ [])) ∙ ap logs_of (sym c.in_ok-push.ensures.items)))
          c.in_ok-give_column.ensures;
    }

pub loop-worker-init : goal.loop-worker-init
loop-worker-init g c =
    record {
      ending = (
        [],
        ending_first c.args.workers.items c.new-columns.result.items c.new-drivers.result.items c.new-outlets.result.items c.new-columns.ensures.items c.new-drivers.ensures.items c.new-outlets.ensures.items,
      );
      rows = subst (λ columns. RowsHold (locks_of c.args.locks.now) (logs_of columns) c.args.rows.now) (sym c.new-columns.ensures.items) c.requires.rows;
    }

pub returns-clause-rows : goal.returns-clause-rows
returns-clause-rows g c = c.loop-worker.invariant.rows

pub returns-clause-crew : goal.returns-clause-crew
returns-clause-crew g c =
    let was = c.loop-worker in
    let zero = c.in_default.ensures.cases.0 in
    let none : length was.workers.items ≡ 0 = omega (arith, zero) in
    (ending_all c.args.workers.items was.workers.items was.invariant.ending.0 was.columns.items was.drivers.items was.outlets.items was.invariant.ending.1 none).0

pub returns-clause-ended : goal.returns-clause-ended
returns-clause-ended g c =
    let was = c.loop-worker in
    let zero = c.in_default.ensures.cases.0 in
    let none : length was.workers.items ≡ 0 = omega (arith, zero) in
    (ending_all c.args.workers.items was.workers.items was.invariant.ending.0 was.columns.items was.drivers.items was.outlets.items was.invariant.ending.1 none).1
