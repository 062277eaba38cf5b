use Rattle.std.proofs.Common.{refl}
use Rattle.mk_words.specs.Merging.{merged}
use Rattle.mk_words.specs.Rebuilding.{NamesBelow}
use Rattle.mk_merge_tests.specs.Rows.{finished}
use Rattle.mk_merge_tests.proofs.Asked.{finished-asked}
use Rattle.mk_merge_tests.proofs.tests.fitting.later_ones_fit.Goals as goal

pub made-requires : goal.made-requires
made-requires g c = (finished, c.in_ok-promises.ensures, finished-asked)

names : NamesBelow 1 (merged 1 1 finished)
names = (refl, (refl, tt))

pub cells-requires : goal.cells-requires
cells-requires g c = (merged 1 1 finished, c.in_ok-base.ensures finished c.in_ok-promises.ensures finished-asked, names)
