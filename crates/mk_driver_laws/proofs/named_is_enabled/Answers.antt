use Rattle.mk_driver_laws.proofs.PlaceStandings.{named_is_enabled as law}
use Rattle.mk_driver_laws.proofs.named_is_enabled.Goals as goal

pub returns : goal.returns
returns c = law
