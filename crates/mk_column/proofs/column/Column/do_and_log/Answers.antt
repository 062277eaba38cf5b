use Rattle.std.proofs.Common.{subst}
use Rattle.std.proofs.lemmas.Result.{on_ok_weaker}
use Rattle.mk_column.specs.ColumnByCode.{ColumnView, kept_of}
use Rattle.mk_column.specs.Growing.{ReadsUnstamped}
use Rattle.mk_column.proofs.GrownSteps.{kept-unstamped}
use Rattle.mk_column.proofs.column.Column.do_and_log.Goals as goal

pub returns-clause-unstamped : goal.returns-clause-unstamped
returns-clause-unstamped c =
    let kept = kept_of c.self.inside.parts in
    on_ok_weaker c.act-done.result
    (λ done. subst (λ (column : ColumnView). ReadsUnstamped column.state) c.self.view_is (kept-unstamped c.self.inside.size kept c.self.inside.settled c.self.invariant))
    c.act-done.ensures.ok
