use Rattle.mk_msg.proofs.IndexLaws.{IsIndexed-reordered}
use Rattle.mk_msg.proofs.link.Link.reserve.Goals as goal

pub invariant_of-self-in_err-reserve-2 : goal.invariant_of-self-in_err-reserve-2
invariant_of-self-in_err-reserve-2 c =
    rw c.reserve-2.ensures.items
    (IsIndexed-reordered c.self.inside.messages.items c.self.inside.places.items c.self.inside.counts.entries c.reserve.new.self.entries c.reserve.ensures.entries.2 c.self.invariant)

pub invariant_of-self-in_err-reserve-3 : goal.invariant_of-self-in_err-reserve-3
invariant_of-self-in_err-reserve-3 c =
    rw (c.reserve-2.ensures.items, c.reserve-3.ensures.items)
    (IsIndexed-reordered c.self.inside.messages.items c.self.inside.places.items c.self.inside.counts.entries c.reserve.new.self.entries c.reserve.ensures.entries.2 c.self.invariant)

pub invariant_of-self-2 : goal.invariant_of-self-2
invariant_of-self-2 c =
    rw (c.reserve-2.ensures.items, c.reserve-3.ensures.items)
    (IsIndexed-reordered c.self.inside.messages.items c.self.inside.places.items c.self.inside.counts.entries c.reserve.new.self.entries c.reserve.ensures.entries.2 c.self.invariant)
