use Rattle.std.proofs.Common.{◌<◌, sym, ap, ◌∙◌, subst, length, List}
use Rattle.mk_column.specs.ColumnByCode.{ColumnView}
use Rattle.mk_state.specs.Handing.{column_reset}
use Rattle.mk_state.proofs.HandLaws.{changed-more}
use Rattle.mk_state.proofs.handing.reset_columns.Goals as goal

pub loop-column-preserved : goal.loop-column-preserved
loop-column-preserved c =
    changed-more (column_reset c.args.replica) c.args.columns.now.items c.loop-column.column-items c.loop-column.column-index c.loop-column.invariant c.column-item.result _
    (subst (λ (cs : List ColumnView). c.loop-column.column-index < length cs) c.deref_mut-column-items.ensures.value c.loop-column-test.true) c.column-item.is c.reset.new.self
    (c.reset.ensures.after ∙ sym (ap (column_reset c.args.replica) c.column-item.is))
