use Rattle.mk_driver_laws.proofs.KeyCalls as calls
use Rattle.mk_driver_laws.proofs.Bounds as bounds
use Rattle.mk_driver_laws.proofs.named_key_is_enabled.Goals as goal

pub returns : goal.returns
returns c = record { enabled = calls.named_key; there = bounds.wanted_is_there; ends_idle = calls.ends_idle }
