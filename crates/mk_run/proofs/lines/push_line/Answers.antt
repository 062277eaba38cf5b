use Rattle.std.proofs.Common.{◌≡◌, ◌∙◌, ◌++◌, List, Some, sym, ap}
use Rattle.std.specs.Prelude.{option_copied, option_map}
use Rattle.mk_model.specs.ColumnState.{attempt_of}
use Rattle.mk_column.specs.ColumnState.{shown}
use Rattle.mk_run.specs.declared.line.AttemptLine.{AttemptLine}
use Rattle.mk_run.proofs.LineLaws.{line-there}
use Rattle.mk_run.proofs.lines.push_line.Goals as goal

pub returns : goal.returns
returns c =
    let column = c.args.column.now in
    let seen : Some c.in-Some.attempt.now ≡ option_map shown (attempt_of column.state c.args.id) = sym (ap option_copied c.in-Some.is) ∙ c.attempt.ensures in
    c.in_ok-push.ensures.items
    ∙ ap (λ (xs : List AttemptLine). c.args.lines.now.items ++ xs)
    (line-there column.setting.faults c.args.firsts.now column.state c.args.id c.in-Some.attempt.now (option_copied c.find.result) c.state_of-state.result c.in_ok-line_in.field-0
    seen c.find.ensures c.state_of-state.ensures c.in_ok-line_in.ensures)
