use Rattle.std.proofs.Common.{arith}
use Rattle.mk_whole.specs.Matchers.{with_entry}
use Rattle.mk_whole.proofs.MatcherLaws.{changed-there, changed-beyond}
use Rattle.mk_whole.proofs.matchers.take_entry.Goals as goal

pub returns-then-seat-len : goal.returns-then-seat-len
returns-then-seat-len c =
    changed-there (with_entry c.args.entry.now) c.args.matchers.now.items c.args.entry.now.seat c.index_mut.result.now _ c.take.new.self (omega arith) c.index_mut.ensures.value c.take.ensures

pub returns-else-seat-len : goal.returns-else-seat-len
returns-else-seat-len c = changed-beyond (with_entry c.args.entry.now) c.args.matchers.now.items c.args.entry.now.seat (omega arith)
