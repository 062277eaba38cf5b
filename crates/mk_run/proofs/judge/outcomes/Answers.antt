use Rattle.std.proofs.Common.{◌∙◌, subst, take, arith, List}
use Rattle.mk_history.specs.declared.RoundLog.{RoundLog}
use Rattle.mk_run.specs.Judging.{HasReplayed}
use Rattle.mk_run.proofs.StandLaws.{if_ok, few-clients, may-replay, replayed-more, taken-all}
use Rattle.mk_run.proofs.WatchLaws.{outcomes-left}
use Rattle.mk_run.proofs.judge.outcomes.Goals as goal

pub new-requires : goal.new-requires
new-requires c = few-clients c.args.run.now c.head.result.now c.head.ensures.parts c.head.ensures.shape

pub replay-requires : goal.replay-requires
replay-requires c =
    let run = c.args.run.now in
    let inv = c.loop-round.invariant in
    let i = c.loop-round.round-index in (
      run,
      take i run.rounds,
      may-replay run c.rounds-round-items.result.now i c.round-item.result inv.items c.loop-round-test.true c.round-item.is c.loop-round.watch c.head.ensures.shape c.requires inv.was,
    )

pub loop-round-preserved : goal.loop-round-preserved
loop-round-preserved c =
    let run = c.args.run.now in
    let inv = c.loop-round.invariant in
    record {
      was = replayed-more run c.rounds-round-items.result.now c.loop-round.round-index c.round-item.result inv.items c.loop-round-test.true c.round-item.is
          c.loop-round.watch c.replay.new.self c.in_ok-_flaw._flaw c.head.ensures.shape c.requires inv.was c.in_ok-_flaw.ensures;
      items = inv.items;
    }

pub returns : goal.returns
returns c =
    let run = c.args.run.now in
    let inv = c.loop-round.invariant in
    let all = taken-all run c.rounds-round-items.result.now c.loop-round.round-index inv.items (omega (arith, c.loop-round-test.false)) in
    let was = subst (λ (rs : List RoundLog). HasReplayed run c.loop-round.watch rs) all inv.was in
    if_ok c.lines.result (λ lines is. is ∙ outcomes-left run c.loop-round.watch was) c.lines.ensures
