use Rattle.mk_cases.proofs.WholeLife.{is_whole_life}
use Rattle.mk_cases.proofs.a_whole_life_is_safe.Goals as goal

pub returns : goal.returns
returns c = is_whole_life c.legal_runs_are_safe.ensures
