use Rattle.std.proofs.Common.{ap, sym, ◌∙◌, ◌+◌, arith}
use Rattle.mk_past.specs.Refusals.{refusal_in_rounds}
use Rattle.mk_past.proofs.IndexLaws.{drop-past}
use Rattle.mk_past.proofs.FirstLaws.{round-found, round-more}
use Rattle.mk_past.proofs.refusals.first_refusal.Goals as goal

pub returns-then-is_some : goal.returns-then-is_some
returns-then-is_some c =
    round-found c.args.stamp c.args.conflict c.args.replicas c.args.rounds.now c.each.index c.index-rounds-index.result c.each-test.true c.index-rounds-index.is c.replica_in-place.result
    (sym c.if-is_some.true ∙ c.is_some.ensures) c.replica_in-place.ensures
    ∙ sym c.each.invariant

pub each-preserved : goal.each-preserved
each-preserved c =
    c.each.invariant
    ∙ round-more c.args.stamp c.args.conflict c.args.replicas c.args.rounds.now c.each.index c.index-rounds-index.result c.each-test.true c.index-rounds-index.is c.replica_in-place.result
    (sym c.if-is_some.false ∙ c.is_some.ensures) c.replica_in-place.ensures

pub returns : goal.returns
returns c =
    sym (c.each.invariant
    ∙ ap (refusal_in_rounds c.args.stamp c.args.conflict c.args.replicas (c.each.index + 1)) (drop-past c.args.rounds.now c.each.index (omega (arith, c.each-test.false))))
