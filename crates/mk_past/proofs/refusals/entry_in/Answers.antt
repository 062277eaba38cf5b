use Rattle.std.proofs.Common.{ap, sym, ◌∙◌, ◌+◌, arith}
use Rattle.mk_past.specs.Refusals.{refusal_in_journal}
use Rattle.mk_past.proofs.IndexLaws.{here-is, drop-past}
use Rattle.mk_past.proofs.FirstLaws.{entry-found, entry-more}
use Rattle.mk_past.proofs.refusals.entry_in.Goals as goal

pub returns-then-is_refusal : goal.returns-then-is_refusal
returns-then-is_refusal c =
    entry-found c.args.stamp c.args.conflict c.args.round c.args.replica c.args.journal.now c.each.place _ c.each-test.true (here-is c.args.journal.now c.each.place _ c.each-test.true)
    (sym c.if-is_refusal.true ∙ c.is_refusal.ensures)
    ∙ sym c.each.invariant

pub each-preserved : goal.each-preserved
each-preserved c =
    c.each.invariant
    ∙ entry-more c.args.stamp c.args.conflict c.args.round c.args.replica c.args.journal.now c.each.place _ c.each-test.true (here-is c.args.journal.now c.each.place _ c.each-test.true)
    (sym c.if-is_refusal.false ∙ c.is_refusal.ensures)

pub returns : goal.returns
returns c =
    sym (c.each.invariant
    ∙ ap (refusal_in_journal c.args.stamp c.args.conflict c.args.round c.args.replica (c.each.place + 1)) (drop-past c.args.journal.now c.each.place (omega (arith, c.each-test.false))))
