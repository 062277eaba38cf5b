use Rattle.std.proofs.Common.{◌≤◌, length, map, ◌∙◌, arith}
use Rattle.std.proofs.lemmas.Bool.Decides.{nat_tests}
use Rattle.mk_trace_parts.proofs.Tables.{extended_there, extended_past, longer, past_length}
use Rattle.mk_trace_parts.proofs.rounds.push_key_entry.Goals as goal

pub returns-in_default : goal.returns-in_default
returns-in_default c =
    let past : length c.args.keys.now.items ≤ c.args.key = grind (arith, nat_tests, c.in_default.ensures.item.0) in
    extended_past (map (λ key. key.items) c.args.keys.now.items) c.args.key c.args.entry (past_length (λ key. key.items) c.args.keys.now.items c.args.key past)

pub returns-in_ok-push : goal.returns-in_ok-push
returns-in_ok-push c =
    let there = c.in-Some.ensures.item.3 in
    let old = c.in-Some.journal.now in
    extended_there (λ key. key.items) c.args.keys.now.items c.args.key c.push.new.self old c.args.entry there.0
    (c.in_ok-push.ensures.items ∙ longer (λ key. key.items) old _ c.args.entry (there.1 old))
