-- So many columns so far.
use Rattle.std.proofs.Common.{◌≡◌, []}
use Rattle.mk_whole.specs.Matchers.{matchers_of}
use Rattle.mk_whole.proofs.matchers.new_matchers.Given as goal

abbrev pub invariant-loop-column : goal.invariant-loop-column
invariant-loop-column l = l.matchers.items ≡ matchers_of [] 0 l._column
