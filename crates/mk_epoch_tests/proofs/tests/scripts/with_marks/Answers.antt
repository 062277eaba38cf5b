use Rattle.std.proofs.Common.{sym, subst, ◌∙◌}
use Rattle.mk_epoch_tests.specs.Reached.{MayBeHanded}
use Rattle.mk_epoch_tests.proofs.ReachedCalls.{two_may}
use Rattle.mk_epoch_tests.proofs.tests.scripts.with_marks.Goals as goal

pub do_lines-requires : goal.do_lines-requires
do_lines-requires g c = record { may = subst MayBeHanded (sym (c.as_slice.ensures.value ∙ c.in_ok-entries.ensures)) two_may }
