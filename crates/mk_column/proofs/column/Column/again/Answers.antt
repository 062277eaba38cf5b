use Rattle.std.proofs.Common.{◌≡◌, Some, sym, ap, subst, ◌∙◌}
use Rattle.std.specs.Prelude.{option_map, option_copied, OnOk}
use Rattle.mk_model.specs.ColumnState.{attempt_of}
use Rattle.mk_column.specs.ColumnState.{shown}
use Rattle.mk_column.proofs.StepLaws.{again-state}
use Rattle.mk_column.proofs.column.Column.again.Goals as goal

pub returns-clause-ok : goal.returns-clause-ok
returns-clause-ok c =
    let old = c.args.self.now in
    let found : option_map shown (attempt_of old.state c.args.id) ≡ Some c.unwrap-attempt.result.now =
    sym c.attempt.ensures ∙ ap option_copied c.unwrap-attempt.ensures in
    let is = again-state old.setting old.state c.args.id c.unwrap-attempt.result.now c.unwrap-outcome.result found c.unwrap-outcome.ensures in
    subst (λ state. OnOk c.send.result (c.send.new.self ≡ record old { state = state })) is c.send.ensures.ok
