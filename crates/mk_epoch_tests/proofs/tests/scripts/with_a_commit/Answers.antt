use Rattle.std.proofs.Common.{sym, subst, ◌∙◌}
use Rattle.mk_epoch_tests.specs.Reached.{MayBeHanded}
use Rattle.mk_epoch_tests.proofs.ReachedCalls.{one_may}
use Rattle.mk_epoch_tests.proofs.tests.scripts.with_a_commit.Goals as goal

pub do_lines-requires : goal.do_lines-requires
do_lines-requires g c = record { may = subst MayBeHanded (sym (c.as_slice.ensures.value ∙ c.in_ok-entries.ensures)) one_may }

pub do_lines-requires-2 : goal.do_lines-requires-2
do_lines-requires-2 g c = record { may = subst MayBeHanded (sym (c.as_slice-2.ensures.value ∙ c.in_ok-entries.ensures)) one_may }
