use Rattle.std.proofs.Common.{◌∙◌, ap, take, length, arith}
use Rattle.std.specs.String.{string_bytes}
use Rattle.mk_history.specs.Histories.{History}
use Rattle.mk_history.specs.Learning.{commits}
use Rattle.mk_shown.specs.FollowTexts.{shown_line}
use Rattle.mk_shown.proofs.FollowLaws.{may-walk, walked-more, line-is, round-next, rounds-within}
use Rattle.mk_shown.proofs.follow.put_rounds.Goals as goal

pub replay-requires : goal.replay-requires
replay-requires c =
    let run = c.args.run.now in
    let i = c.each.place in (
      run,
      take i run.rounds,
      may-walk run c.rounds-round-items.result.now i c.round-item.result c.rounds-round-items.ensures c.each-test.true c.round-item.is c.each.walk c.head-head.ensures.shape c.requires.legal c.each.invariant.was,
    )

pub put_round-requires-clause-some : goal.put_round-requires-clause-some
put_round-requires-clause-some c =
    let run = c.args.run.now in
    let i = c.each.place in
    let items = c.rounds-round-items.result.now in
    let round = c.round-item.result in
    let same = c.rounds-round-items.ensures in
    let may = may-walk run items i round same c.each-test.true c.round-item.is c.each.walk c.head-head.ensures.shape c.requires.legal c.each.invariant.was in
    let count = (c.in_ok-replay.ensures run (take i run.rounds) may).at.sizes.columns in
    let some = c.requires.some in
    omega (arith, count, some)

pub put_round-requires-clause-few : goal.put_round-requires-clause-few
put_round-requires-clause-few c =
    let run = c.args.run.now in
    let i = c.each.place in
    let items = c.rounds-round-items.result.now in
    let round = c.round-item.result in
    let same = c.rounds-round-items.ensures in
    let may = may-walk run items i round same c.each-test.true c.round-item.is c.each.walk c.head-head.ensures.shape c.requires.legal c.each.invariant.was in
    let count = (c.in_ok-replay.ensures run (take i run.rounds) may).at.sizes.columns in
    let few = c.head-head.ensures.shape.few_columns in
    omega (arith, count, few)

pub each-preserved : goal.each-preserved
each-preserved c =
    let run = c.args.run.now in
    let i = c.each.place in
    let items = c.rounds-round-items.result.now in
    let round = c.round-item.result in
    let same = c.rounds-round-items.ensures in
    let may = may-walk run items i round same c.each-test.true c.round-item.is c.each.walk c.head-head.ensures.shape c.requires.legal c.each.invariant.was in
    let was = walked-more run items i round same c.each-test.true c.round-item.is c.replay.new.self (c.in_ok-replay.ensures run (take i run.rounds) may) in
    let clients = c.as_slice-client_columns.ensures ∙ ap (λ (r : History). r.client_columns) c.head-head.ensures.parts in
    let keys = c.len-keys.ensures.count ∙ ap (λ (r : History). length r.key_names) c.head-head.ensures.parts in
    record {
      was = was;
      text =
          round-next (shown_line run) (string_bytes c.each.out) (string_bytes c.put_round.new.out) _ _ i (length run.rounds) (rounds-within run items i round same c.each-test.true c.round-item.is)
          (c.in_ok-put_round.ensures (commits run) c.requires.past)
          (line-is run items i round same c.each-test.true c.round-item.is c.watermarks_are_shown.ensures c.requires.legal c.replay.new.self was c.as_slice-client_columns.result.now clients c.len-keys.result keys)
          c.each.invariant.text;
    }
