use Rattle.std.proofs.Common.{ap, sym, ◌∙◌, arith}
use Rattle.mk_past.specs.Refusals.{refusal_in_journal, refusal_at}
use Rattle.mk_past.proofs.FirstLaws.{from-found, from-more, from-end}
use Rattle.mk_past.proofs.refusals.replica_in.Goals as goal

pub returns-then-is_some : goal.returns-then-is_some
returns-then-is_some c =
    from-found (refusal_at c.args.stamp c.args.conflict c.args.number c.args.round.now) c.args.replicas c.each.replica c.each.invariant c.each-test.true c.entry_in-place.result
    (sym c.if-is_some.true ∙ c.is_some.ensures)
    (c.entry_in-place.ensures ∙ ap (refusal_in_journal c.args.stamp c.args.conflict c.args.number c.each.replica 1) c.journal_at-journal.ensures)

pub each-preserved : goal.each-preserved
each-preserved c =
    from-more (refusal_at c.args.stamp c.args.conflict c.args.number c.args.round.now) c.args.replicas c.each.replica c.each.invariant c.each-test.true c.entry_in-place.result
    (sym c.if-is_some.false ∙ c.is_some.ensures)
    (c.entry_in-place.ensures ∙ ap (refusal_in_journal c.args.stamp c.args.conflict c.args.number c.each.replica 1) c.journal_at-journal.ensures)

pub returns : goal.returns
returns c = from-end (refusal_at c.args.stamp c.args.conflict c.args.number c.args.round.now) c.args.replicas c.each.replica c.each.invariant (omega (arith, c.each-test.false))
