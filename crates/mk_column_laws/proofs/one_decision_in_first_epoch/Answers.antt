use Rattle.mk_column_laws.proofs.OneEpoch.{one_decision_in_first_epoch as law}
use Rattle.mk_column_laws.proofs.one_decision_in_first_epoch.Goals as goal

pub returns : goal.returns
returns c = law
