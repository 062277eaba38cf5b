use Rattle.mk_merge_tests.specs.Rows.{conflicting}
use Rattle.mk_merge_tests.proofs.Asked.{conflicting-asked}
use Rattle.mk_merge_tests.proofs.tests.rows.candidate_gives_way.Goals as goal

pub made-requires : goal.made-requires
made-requires g c = (conflicting, c.in_ok-promises.ensures, conflicting-asked)
