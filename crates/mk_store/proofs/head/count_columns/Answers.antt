use Rattle.std.proofs.Common.{arith}
use Rattle.std.proofs.lemmas.Grind.{common_steps}
use Rattle.mk_store.proofs.NameLaws.{columns-next, column-below}
use Rattle.mk_store.proofs.head.count_columns.Goals as goal

pub overflow_add-column : goal.overflow_add-column
overflow_add-column c = omega (arith, column-below c.args.columns.now c.loop-column.column-index c.loop-column-test.true)

pub loop-column-preserved : goal.loop-column-preserved
loop-column-preserved c =
    grind (arith, common_steps, columns-next c.args.columns.now c.loop-column.column-index c.loop-column-test.true, c.loop-column.invariant, c.max-count.ensures)
