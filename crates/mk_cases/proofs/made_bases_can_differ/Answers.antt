use Rattle.mk_cases.proofs.TwoBases.{two_bases_differ}
use Rattle.mk_cases.proofs.made_bases_can_differ.Goals as goal

pub returns : goal.returns
returns c = two_bases_differ
