use Rattle.std.proofs.Common.{◌≤◌, length, map, ◌∙◌, arith}
use Rattle.std.proofs.lemmas.Bool.Decides.{nat_tests}
use Rattle.mk_trace_parts.proofs.Tables.{journaled_there, journaled_past, journal_of, past_length}
use Rattle.mk_trace_parts.proofs.rounds.push_entry.Goals as goal

pub returns-in_default : goal.returns-in_default
returns-in_default c =
    let vs = c.args.journals.now.items in
    let past : length vs ≤ c.args.replica = grind (arith, nat_tests, c.in_default.ensures.item.0) in
    journaled_past (map (λ replica. map (λ key. key.items) replica.items) vs) c.args.replica c.args.key c.args.entry (past_length (λ replica. map (λ key. key.items) replica.items) vs c.args.replica past)

pub returns-in_ok-push_key_entry : goal.returns-in_ok-push_key_entry
returns-in_ok-push_key_entry c =
    let there = c.in-Some.ensures.item.3 in
    let old = c.in-Some.keys.now in
    journaled_there (λ replica. map (λ key. key.items) replica.items) c.args.journals.now.items c.args.replica c.args.key c.push_key_entry.new.keys old c.args.entry there.0
    (c.in_ok-push_key_entry.ensures ∙ journal_of (λ replica. map (λ key. key.items) replica.items) old _ c.args.key c.args.entry (there.1 old))
