use Rattle.mk_driven_cases.proofs.WholeScript.{life_is_driven}
use Rattle.mk_driven_cases.proofs.a_whole_life_is_driven.Goals as goal

pub returns : goal.returns
returns c = life_is_driven
