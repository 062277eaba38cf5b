use Rattle.std.proofs.Common.{◌≡◌, ◌==◌, true, sym, ap, ◌∙◌, arith}
use Rattle.std.proofs.lemmas.Bool.Decides.{nat_tests}
use Rattle.std.proofs.lemmas.Bool.{cond-true}
use Rattle.mk_model.specs.ColumnState.{mark_sent}
use Rattle.mk_column.proofs.MarkLaws.{client_mark-is}
use Rattle.mk_column.proofs.column.Column.mark_to_send.Goals as goal

pub returns-then-self-eq2 : goal.returns-then-self-eq2
returns-then-self-eq2 c =
    let test : (c.self.inside.version == 2) ≡ true = grind (arith, nat_tests, c.if-self-eq2.true) in
    sym (cond-true _ _ _ test ∙ client_mark-is _ _ c.self.inside.settled c.args.client c.mark.result c.self.invariant c.mark.ensures)
    ∙ ap (λ column. mark_sent column.setting column.state c.args.client) c.self.view_is
