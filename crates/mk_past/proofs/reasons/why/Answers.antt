use Rattle.std.proofs.Common.{◌≡◌, rules, None}
use Rattle.mk_past.specs.Reasons.{reason_of}
use Rattle.mk_past.proofs.ReasonLaws.{none-where}
use Rattle.mk_past.proofs.reasons.why.Goals as goal

pub returns-in-Some-clause-none : goal.returns-in-Some-clause-none
returns-in-Some-clause-none c =
    let is : c.by_state.result ≡ reason_of c.args.run.now c.args.id = search rules in
    none-where c.args.run.now c.args.id c.by_state.result is (c.lines_are_reasoned.ensures c.args.run.now c.has_shape.ensures c.requires)
    (c.attempts_have_lines.ensures.only c.args.run.now c.has_shape.ensures c.requires) (c.attempts_have_lines.ensures.there c.args.run.now c.has_shape.ensures c.requires c.args.id)

pub returns-clause-none : goal.returns-clause-none
returns-clause-none c =
    let is : None ≡ reason_of c.args.run.now c.args.id = search rules in
    none-where c.args.run.now c.args.id None is (c.lines_are_reasoned.ensures c.args.run.now c.has_shape.ensures c.requires)
    (c.attempts_have_lines.ensures.only c.args.run.now c.has_shape.ensures c.requires) (c.attempts_have_lines.ensures.there c.args.run.now c.has_shape.ensures c.requires c.args.id)
