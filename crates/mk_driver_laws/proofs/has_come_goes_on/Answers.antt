use Rattle.mk_driver_laws.proofs.GoingOn as laws
use Rattle.mk_driver_laws.proofs.has_come_goes_on.Goals as goal

pub returns : goal.returns
returns c = record { at_first = laws.at_first; after_step = laws.after_step; after_round = laws.after_round }
