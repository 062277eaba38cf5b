use Rattle.mk_column_laws.proofs.OneEpoch as laws
use Rattle.mk_column_laws.proofs.learnings_are_decided_in_first_epoch.Goals as goal

pub returns : goal.returns
returns c = record { decided = laws.learnings_are_decided; agree = laws.learnings_agree }
