use Rattle.mk_column.proofs.GrownLaws.{grown-itself, grown-through}
use Rattle.mk_column.proofs.growing.grows_through.Goals as goal

pub returns-clause-itself : goal.returns-clause-itself
returns-clause-itself c = grown-itself

pub returns-clause-through : goal.returns-clause-through
returns-clause-through c = grown-through
