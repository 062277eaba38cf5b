use Rattle.std.proofs.Common.{◌≡◌, length, subst, arith}
use Rattle.std.specs.Prelude.{Ok}
use Rattle.mk_workers.specs.declared.worker.Worker.{Worker}
use Rattle.mk_workers.specs.Seating.{locks_of, IsFreshColumn, RowsFit}
use Rattle.mk_workers.proofs.Crewing.{started_all, starting_first, starting_more}
use Rattle.mk_workers.proofs.round.start_all.Goals as goal

pub loop-column-preserved : goal.loop-column-preserved
loop-column-preserved g c =
    let was = c.loop-column in
    let crew = c.args.crew in
    let locks = locks_of c.args.locks.now in
    let left = c.pop.new.self.items in
    let long : c.len.result ≡ length left = omega arith in
    let w : Worker g.row.O.Denot = record { column = c.in-Some.column; driver = c.in-Some-pop.driver; seats = c.in_ok-seats.seats; outlet = c.in-Some-pop-2.outlet; ended = Ok tt } in
    record {
      starting = starting_more locks crew.columns.items crew.drivers.items crew.outlets.items was.columns.items left was.drivers.items c.pop-in-Some.new.self.items
          was.outlets.items c.pop-in-Some-2.new.self.items was.workers.items c.push.new.self.items w was.invariant.starting c.in-Some.ensures.items c.in-Some-pop.ensures.items
          c.in-Some-pop-2.ensures.items (subst (λ n. IsFreshColumn locks n c.in_ok-seats.seats.items) long c.in_ok-seats.ensures.column) c.in_ok-push.ensures.items;
      rows = subst (λ n. RowsFit locks n c.take_column.new.rows) long c.in_ok-seats.ensures.rows;
    }

pub loop-column-init : goal.loop-column-init
loop-column-init g c =
    let crew = c.args.crew in
    record {
      starting = starting_first (locks_of c.args.locks.now) crew.columns.items crew.drivers.items crew.outlets.items c.new-workers.result.items c.requires.numbers c.requires.as_many c.new-workers.ensures.items;
      rows = c.requires.rows;
    }

pub returns-clause-rows : goal.returns-clause-rows
returns-clause-rows g c =
    let zero = c.in_default.ensures.cases.0 in
    let none : length c.loop-column.columns.items ≡ 0 = omega (arith, zero) in
    subst (λ n. RowsFit (locks_of c.args.locks.now) n c.loop-column.rows) none c.loop-column.invariant.rows

pub returns-clause-workers : goal.returns-clause-workers
returns-clause-workers g c =
    let was = c.loop-column in
    let crew = c.args.crew in
    let zero = c.in_default.ensures.cases.0 in
    let none : length was.columns.items ≡ 0 = omega (arith, zero) in
    started_all (locks_of c.args.locks.now) crew.columns.items crew.drivers.items crew.outlets.items was.columns.items was.drivers.items was.outlets.items was.workers.items was.invariant.starting none
