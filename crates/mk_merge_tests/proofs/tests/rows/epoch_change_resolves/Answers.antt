use Rattle.mk_merge_tests.specs.Rows.{hinted}
use Rattle.mk_merge_tests.proofs.Asked.{hinted-asked}
use Rattle.mk_merge_tests.proofs.tests.rows.epoch_change_resolves.Goals as goal

pub made-requires : goal.made-requires
made-requires g c = (hinted, c.in_ok-promises.ensures, hinted-asked)
