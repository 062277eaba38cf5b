use Rattle.std.proofs.Common.{◌≡◌, length}
use Rattle.mk_trace.specs.Answers.{fed_behind}
use Rattle.mk_trace.proofs.tracing.TraceReader.feed.Given as goal

abbrev pub invariant-lines : goal.invariant-lines
invariant-lines l = fed_behind l.self l.left ≡ fed_behind l.fn.self l.piece

abbrev pub decreases-lines : goal.decreases-lines
decreases-lines l = length l.left
