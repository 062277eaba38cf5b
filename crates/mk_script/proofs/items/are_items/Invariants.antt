use Rattle.std.proofs.Common.{◌≡◌, length}
use Rattle.mk_spelling.specs.Words as text
use Rattle.mk_script.specs.ItemShapes as spec
use Rattle.mk_script.proofs.items.are_items.Given as goal

abbrev pub invariant-loop-left : goal.invariant-loop-left
invariant-loop-left l = spec.are_items l.version (text.words_behind l.left) ≡ spec.are_items l.version (text.words l.items)

abbrev pub decreases-loop-left : goal.decreases-loop-left
decreases-loop-left l = length (text.words_behind l.left)
