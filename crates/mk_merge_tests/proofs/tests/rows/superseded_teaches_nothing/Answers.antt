use Rattle.mk_merge_tests.specs.Rows.{silent, unhinted}
use Rattle.mk_merge_tests.proofs.Asked.{silent-asked, unhinted-asked}
use Rattle.mk_merge_tests.proofs.tests.rows.superseded_teaches_nothing.Goals as goal

pub made-requires : goal.made-requires
made-requires g c = (silent, c.in_ok-promises.ensures, silent-asked)

pub made-requires-2 : goal.made-requires-2
made-requires-2 g c = (unhinted, c.in_ok-heard.ensures, unhinted-asked)
