use Rattle.mk_verdict.proofs.Exact as laws
use Rattle.mk_verdict.proofs.verdicts_are_exact.Goals as goal

pub returns : goal.returns
returns c = record { exact = laws.verdicts_are_exact; first = laws.first_flaws_are_first }
