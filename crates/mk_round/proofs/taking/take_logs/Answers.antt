use Rattle.std.proofs.Common.{◌≡◌, ◌<◌, ◌≤◌, ◌∙◌, refl, sym, ap, arith, length}
use Rattle.std.proofs.lemmas.Option.{slice_get_read}
use Rattle.mk_column.specs.ColumnByCode.{ColumnView}
use Rattle.mk_round.specs.Begun.{without_log}
use Rattle.mk_round.proofs.Loops.{changing_here, changing_more, changing_all, whole_again, as_map}
use Rattle.mk_round.proofs.TakeLaws.{logs_more}
use Rattle.mk_round.proofs.taking.take_logs.Goals as goal

pub loop-column-preserved : goal.loop-column-preserved
loop-column-preserved c =
    let olds = c.args.columns.now.items in
    let items = c.loop-column.column-items in
    let i = c.loop-column.column-index in
    let was = c.loop-column.invariant in
    let long = was.columns.all in
    let shown = ap length c.deref_mut-column-items.ensures.value in
    let test = c.loop-column-test.true in
    let within : i < length items = omega (arith, test, shown, long) in
    let at = slice_get_read items (length items) i c.column-item.result refl within c.column-item.is in
    record {
      logs = logs_more olds i c.column-item.result c.loop-column.logs.items c.push.new.self.items c.take_log.result was.logs
          (changing_here (λ old new. new ≡ without_log old) i olds items c.column-item.result was.columns at)
          (c.take_log.ensures.log ∙ ap (λ (x : ColumnView). x.log) (sym c.column-item.is)) c.in_ok-push.ensures.items;
      columns = changing_more (λ old new. new ≡ without_log old) i olds items c.column-item.result c.take_log.new.self was.columns within at
          (c.take_log.ensures.rest ∙ sym (ap without_log c.column-item.is));
    }

pub returns-clause-columns : goal.returns-clause-columns
returns-clause-columns c =
    let olds = c.args.columns.now.items in
    let items = c.loop-column.column-items in
    let i = c.loop-column.column-index in
    let was = c.loop-column.invariant in
    let long = was.columns.all in
    let shown = ap length c.deref_mut-column-items.ensures.value in
    let test = c.loop-column-test.false in
    let over : length olds ≤ i = omega (arith, test, shown) in
    whole_again olds items c.args.columns.now.len long (omega arith)
    ∙ as_map without_log olds items long (changing_all (λ old new. new ≡ without_log old) i olds items was.columns over)
