use Rattle.std.proofs.Common.{◌≡◌, ◌≤◌, length}
use Rattle.mk_spelling.specs.Words as text
use Rattle.mk_script.specs.ItemShapes as spec
use Rattle.mk_script.specs.Seen.{counted}
use Rattle.mk_script.proofs.KeyLaws.{counts}
use Rattle.mk_script.proofs.items.count_items.Given as goal

abbrev pub invariant-loop-left : goal.invariant-loop-left
invariant-loop-left l =
    record { few : l.n ≤ 17; same : counts l.n (spec.mentions_of (text.words_behind l.left)) ≡ counted (spec.mentions_of (text.words l.items)) }

abbrev pub decreases-loop-left : goal.decreases-loop-left
decreases-loop-left l = length (text.words_behind l.left)
