use Rattle.std.proofs.Common.{◌≡◌, length}
use Rattle.mk_spelling.specs.Words.{words_behind}
use Rattle.mk_trace_text.specs.Grammar.{are_writes}
use Rattle.mk_trace_parts.proofs.fields.are_writes.Given as goal

abbrev pub invariant-loop-left : goal.invariant-loop-left
invariant-loop-left l = are_writes (words_behind l.left) ≡ are_writes (words_behind l.text)

abbrev pub decreases-loop-left : goal.decreases-loop-left
decreases-loop-left l = length (words_behind l.left)
