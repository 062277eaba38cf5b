use denote.Param.Send.{sendable}
use Rattle.std.proofs.Crossing.{crosses}
use Rattle.mk_lock_laws.proofs.Sending.{lock_crosses}
use Rattle.mk_lock_tests.proofs.gates.both_act.Goals as goal

pub join-requires-send-F : goal.join-requires-send-F
join-requires-send-F g c κs within = search (sendable, crosses, lock_crosses) depth 12

pub join-requires-send-A : goal.join-requires-send-A
join-requires-send-A g c κs within = search (sendable, crosses, lock_crosses) depth 12
