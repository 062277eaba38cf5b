use Rattle.std.proofs.Common.{◌≤◌, length, map, ◌∙◌, arith}
use Rattle.std.proofs.lemmas.Bool.Decides.{nat_tests}
use Rattle.mk_trace_parts.proofs.Tables.{extended_there, extended_past, longer, past_length}
use Rattle.mk_trace_parts.proofs.rounds.push_step.Goals as goal

pub returns-in_default : goal.returns-in_default
returns-in_default c =
    let past : length c.args.logs.now.items ≤ c.args.column = grind (arith, nat_tests, c.in_default.ensures.item.0) in
    extended_past (map (λ log. log.items) c.args.logs.now.items) c.args.column c.args.step (past_length (λ log. log.items) c.args.logs.now.items c.args.column past)

pub returns-in_ok-push : goal.returns-in_ok-push
returns-in_ok-push c =
    let there = c.in-Some.ensures.item.3 in
    let old = c.in-Some.log.now in
    extended_there (λ log. log.items) c.args.logs.now.items c.args.column c.push.new.self old c.args.step there.0
    (c.in_ok-push.ensures.items ∙ longer (λ log. log.items) old _ c.args.step (there.1 old))
