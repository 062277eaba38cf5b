use Rattle.std.proofs.Common.{◌++◌, ap, ◌∙◌}
use Rattle.mk_model.specs.ColumnState.{to_all}
use Rattle.mk_column.proofs.KeptSteps.{IsKept-sends, to_all-quiet, to_all-there, other-kind}
use Rattle.mk_column.proofs.column.Column.send.Goals as goal

pub invariant_of-self-2 : goal.invariant_of-self-2
invariant_of-self-2 c =
    let msgs = to_all c.self.inside.size c.args.epoch c.args.id c.args.view c.args.body in
    IsKept-sends _ _ _ _ msgs (c.send_to_all.ensures ∙ ap (λ all. all ++ msgs) c.reserve.ensures.same)
    (to_all-quiet _ _ _ _ _ (other-kind c.args.epoch c.args.id c.args.view c.args.body c.requires)) (to_all-there _ _ _ _ _) c.self.invariant
