use Rattle.std.proofs.Common.{arith}
use Rattle.mk_whole.specs.Matchers.{with_step}
use Rattle.mk_whole.proofs.MatcherLaws.{changed-there, changed-beyond}
use Rattle.mk_whole.proofs.matchers.add_turn.Goals as goal

pub returns-in_ok-add : goal.returns-in_ok-add
returns-in_ok-add c =
    changed-there (with_step c.args.turn.now) c.args.matchers.now.items c.args.turn.now.seat c.index_mut.result.now _ c.add.new.self (omega arith) c.index_mut.ensures.value c.in_ok-add.ensures

pub returns-else-seat-len : goal.returns-else-seat-len
returns-else-seat-len c = changed-beyond (with_step c.args.turn.now) c.args.matchers.now.items c.args.turn.now.seat (omega arith)
