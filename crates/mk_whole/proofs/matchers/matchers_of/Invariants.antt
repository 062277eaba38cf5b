-- The key steps so far are with their columns.
use Rattle.std.proofs.Common.{◌≡◌, take}
use Rattle.mk_whole.specs.Matchers.{matchers_of}
use Rattle.mk_whole.proofs.matchers.matchers_of.Given as goal

abbrev pub invariant-loop-turn : goal.invariant-loop-turn
invariant-loop-turn l = l.matchers.items ≡ matchers_of (take l.turn-index l.turns) 0 l.columns
