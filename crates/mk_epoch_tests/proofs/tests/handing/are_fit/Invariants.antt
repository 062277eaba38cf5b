use Rattle.std.proofs.Common.{take}
use Rattle.mk_lists.specs.Among.{Each}
use Rattle.mk_words.specs.Bases.{BaseState}
use Rattle.mk_words.specs.Promises.{EntryFits}
use Rattle.mk_epoch_tests.proofs.tests.handing.are_fit.Given as goal

abbrev pub invariant-loop-entry : goal.invariant-loop-entry
invariant-loop-entry g l = (state : BaseState) → g.B.Keeping.stands l.base state → Each (EntryFits state) (take l.entry-index l.entries)
