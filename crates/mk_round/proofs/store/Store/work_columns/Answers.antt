use Rattle.std.proofs.Common.{ap}
use Rattle.mk_workers.specs.ByKey.{states_of}
use Rattle.mk_round.proofs.HandLaws.{work_begun, all_left}
use Rattle.mk_round.proofs.store.Store.work_columns.Goals as goal

pub work-requires-clause-begun : goal.work-requires-clause-begun
work-requires-clause-begun g c κs within =
    work_begun c.requires.0 c.requires.1 _ _ c.args.rules.now c.take_work-columns.result.1.items c.replace-drivers.result.items c.take_work-columns.result.0.items
    c.self.view_is c.requires.3 c.requires.2 c.take_work-columns.ensures.cells (ap (λ v. v.items) c.replace-drivers.ensures.value) c.take_work-columns.ensures.columns

pub returns-clause-left : goal.returns-clause-left
returns-clause-left g c =
    all_left c.args.rules.now _ _ c.self.view_is c.take_work-columns.result.1.items c.replace-drivers.result.items c.take_work-columns.result.0.items
    c.take_work-columns.ensures.cells (ap (λ v. v.items) c.replace-drivers.ensures.value) c.take_work-columns.ensures.columns
    c.work.result (λ w. w.columns.items) (λ w. w.drivers.items) (λ w. states_of w.cells.items) (λ w. w.journals) c.work.ensures.journals c.work.ensures.ended
