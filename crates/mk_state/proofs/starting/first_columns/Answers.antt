use Rattle.std.proofs.Common.{◌++◌, ◌+◌, ◌-◌, ℕ, sym, ap, subst, ◌∙◌, map, List, []}
use Rattle.mk_lists.specs.Among.{AllDistinct}
use Rattle.mk_model.specs.ColumnState.{numbers_from}
use Rattle.mk_column.specs.ColumnByCode.{ColumnView, column_at_start}
use Rattle.mk_state.specs.Starting.{first_column}
use Rattle.mk_state.proofs.StartLaws.{clients-distinct, number-more}
use Rattle.mk_state.proofs.starting.first_columns.Goals as goal

pub new-requires : goal.new-requires
new-requires c =
    subst (λ (ns : List ℕ). AllDistinct ns) (sym (c.as_slice.ensures.value ∙ c.in_ok-clients.ensures)) (clients-distinct c.loop-number.number 1 c.args.client_columns.now)

pub loop-number-preserved : goal.loop-number-preserved
loop-number-preserved c =
    number-more (first_column c.args.size c.args.client_columns.now c.args.keys c.args.version) c.args.columns c.loop-number.number c.loop-number.made.items c.in_ok-column.column
    c.loop-number-test.true
    (c.in_ok-column.ensures
    ∙ ap (column_at_start c.loop-number.number (record { version = c.args.version; faults = c.args.size; keys = c.args.keys; views = [] })) (c.as_slice.ensures.value ∙ c.in_ok-clients.ensures))
    c.loop-number.invariant
    ∙ ap (λ (cs : List ColumnView). cs ++ map (first_column c.args.size c.args.client_columns.now c.args.keys c.args.version) (numbers_from (c.loop-number.number + 1) (c.args.columns - (c.loop-number.number + 1))))
    (sym c.in_ok-push.ensures.items)
