use Rattle.std.proofs.Common.{◌≡◌, ◌≤◌, length, get_or, ap, ◌∙◌, arith}
use Rattle.std.proofs.lemmas.Bool.Decides.{nat_tests}
use Rattle.mk_trace_text.specs.Begun.{risen, raised}
use Rattle.mk_trace_parts.proofs.Tables.{raised_there, raised_past}
use Rattle.mk_trace_parts.proofs.rounds.raise.Goals as goal

pub returns-in-Some : goal.returns-in-Some
returns-in-Some c =
    let ns = c.args.begun.now.items in
    let i = c.saturating_sub.result in
    let there = c.in-Some.ensures.item.3 in
    let more : c.saturating_add.result ≡ risen (get_or ns i 0) = c.saturating_add.ensures ∙ ap risen (there.1 0) in
    raised_there ns i c.saturating_add.result there.0 more ∙ ap (raised ns) c.saturating_sub.ensures

pub returns-in_default : goal.returns-in_default
returns-in_default c =
    let ns = c.args.begun.now.items in
    let i = c.saturating_sub.result in
    let past : length ns ≤ i = grind (arith, nat_tests, c.in_default.ensures.item.0) in
    raised_past ns i past ∙ ap (raised ns) c.saturating_sub.ensures
