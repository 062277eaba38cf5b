use Rattle.std.proofs.Common.{rules}
use Rattle.mk_lock.proofs.TurnLaws.{act_ends}
use Rattle.mk_lock.proofs.lock.KeyLock.act.Goals as goal

pub end_turn-requires : goal.end_turn-requires
end_turn-requires g c = record {
  token = (
    search rules,
    (act_ends _ _ _ _ _ _ _ _ _ _ c.seat.invariant c.draw-ticket.ensures.waits c.take_turn.ensures.turn c.slot_mut.ensures.value c.act-done.ensures.opening c.act-done.ensures.ok c.act-done.ensures.err).0,
  );
}
