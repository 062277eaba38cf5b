use denote.Param.Send.{sendable}
use Rattle.std.proofs.Crossing.{crosses}
use Rattle.mk_lock_laws.proofs.Sending.{lock_crosses}
use Rattle.mk_lock_tests.proofs.turns.act_everywhere.Goals as goal

pub for_each_mut-requires-send-T : goal.for_each_mut-requires-send-T
for_each_mut-requires-send-T g c κs within = search (sendable, crosses, lock_crosses) depth 14
