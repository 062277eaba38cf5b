use Rattle.mk_snap.proofs.LeftsLaws.{ComesToAdded}
use Rattle.mk_snap.proofs.lefts.add_commits.Given as goal

abbrev pub invariant-loop-fated : goal.invariant-loop-fated
invariant-loop-fated l = ComesToAdded l.list l.fated-index l.fn.lefts.entries l.lefts.entries
