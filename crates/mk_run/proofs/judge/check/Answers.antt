use Rattle.std.proofs.Common.{◌∙◌, ap, sym, take, arith}
use Rattle.mk_kept.specs.declared.head.Head.{Head}
use Rattle.mk_kept.specs.Heads.{history}
use Rattle.mk_run.proofs.StandLaws.{few-clients, may-take, stands-next, whole-verdict}
use Rattle.mk_run.proofs.judge.check.Goals as goal

pub new-requires : goal.new-requires
new-requires c =
    few-clients c.args.run.now c.in_ok-copy.field-0 (ap (λ (h : Head). history h c.args.run.now.rounds) c.in_ok-copy.ensures ∙ c.head.ensures.parts) c.head.ensures.shape

pub take_round-requires : goal.take_round-requires
take_round-requires c =
    let run = c.args.run.now in
    let inv = c.loop-round.invariant in
    let i = c.loop-round.round-index in
    record {
      shape = λ works. (
        take i run.rounds,
        may-take run c.rounds-round-items.result.now i c.round-item.result inv.items c.loop-round-test.true c.round-item.is c.loop-round.judge c.head.ensures.shape inv.stands inv.parts,
      );
    }

pub loop-round-preserved : goal.loop-round-preserved
loop-round-preserved c =
    let run = c.args.run.now in
    let inv = c.loop-round.invariant in
    let i = c.loop-round.round-index in
    let items = c.rounds-round-items.result.now in
    let may = may-take run items i c.round-item.result inv.items c.loop-round-test.true c.round-item.is c.loop-round.judge c.head.ensures.shape inv.stands inv.parts in
    record {
      stands = stands-next run items i c.round-item.result inv.items c.loop-round-test.true c.round-item.is c.take_round.new.self (c.in_ok-take_round.ensures.stands (take i run.rounds) may);
      works = c.in_ok-take_round.ensures.works.1;
      parts = ap (λ (h : Head). history h run.rounds) c.take_round.ensures.head ∙ inv.parts;
      items = inv.items;
    }

pub returns-clause-verdict : goal.returns-clause-verdict
returns-clause-verdict c =
    let inv = c.loop-round.invariant in
    whole-verdict c.args.run.now c.loop-round.judge c.rounds-round-items.result.now c.loop-round.round-index c.verdict.result c.head.ensures.shape inv.stands inv.parts inv.items
    (omega (arith, c.loop-round-test.false)) c.verdict.ensures.verdict

pub returns-clause-legal : goal.returns-clause-legal
returns-clause-legal c =
    let inv = c.loop-round.invariant in
    let told =
    whole-verdict c.args.run.now c.loop-round.judge c.rounds-round-items.result.now c.loop-round.round-index c.verdict.result c.head.ensures.shape inv.stands inv.parts inv.items
    (omega (arith, c.loop-round-test.false)) c.verdict.ensures.verdict in
    let exact = c.verdicts_are_exact.ensures.exact c.args.run.now in
    (λ legal. exact.0 (sym told ∙ legal), λ legal. told ∙ exact.1 legal)
