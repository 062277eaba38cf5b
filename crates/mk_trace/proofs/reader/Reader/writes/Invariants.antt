use Rattle.std.proofs.Common.{◌≡◌, length}
use Rattle.mk_spelling.specs.Words.{words_behind}
use Rattle.mk_trace_text.specs.Grammar.{writes_of}
use Rattle.mk_trace.specs.Writes.{behind}
use Rattle.mk_trace.proofs.reader.Reader.writes.Given as goal

abbrev pub invariant-loop-left : goal.invariant-loop-left
invariant-loop-left l = behind l.writes.items (writes_of l.self (words_behind l.left)) ≡ writes_of l.self (words_behind l.text)

abbrev pub decreases-loop-left : goal.decreases-loop-left
decreases-loop-left l = length (words_behind l.left)
