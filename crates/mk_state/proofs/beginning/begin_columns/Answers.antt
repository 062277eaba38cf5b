use Rattle.std.proofs.Common.{◌<◌, sym, ap, ◌∙◌, subst, length, List}
use Rattle.mk_trim.specs.declared.ReplicaView.{ReplicaView}
use Rattle.mk_column.specs.ColumnByCode.{ColumnView}
use Rattle.mk_state.specs.Beginning.{column_begun}
use Rattle.mk_state.proofs.HandLaws.{changed-more}
use Rattle.mk_state.proofs.beginning.begin_columns.Goals as goal

pub loop-column-preserved : goal.loop-column-preserved
loop-column-preserved c =
    changed-more (column_begun c.args.views.now) c.args.columns.now.items c.loop-column.column-items c.loop-column.column-index c.loop-column.invariant c.column-item.result _
    (subst (λ (cs : List ColumnView). c.loop-column.column-index < length cs) c.deref_mut-column-items.ensures.value c.loop-column-test.true) c.column-item.is c.begin_column.new.column
    (c.begin_column.ensures ∙ sym (ap (column_begun c.in_ok-copy.copy.items) c.column-item.is) ∙ ap (λ (views : List ReplicaView). column_begun views c.column-item.result) c.in_ok-copy.ensures)
