use Rattle.mk_workers.specs.ByKey.{states_of}
use Rattle.mk_round.proofs.HandLaws.{round_worked}
use Rattle.mk_round.proofs.store.Store.work_round.Goals as goal

pub returns : goal.returns
returns g c =
    let w = c.in_ok-worked.worked in
    round_worked c.args.rules.now c.args.self.now c.begin_round.new.self c.work_columns.new.self c.put_work.new.self w.columns.items w.drivers.items (states_of w.cells.items) w.journals
    c.put_work.result (λ script done may. c.in_ok-begin_round.ensures c.args.rules.now script done may) c.in_ok-worked.ensures.left c.in_ok-worked.ensures.rest
    c.put_work.ensures.round c.put_work.ensures.after
