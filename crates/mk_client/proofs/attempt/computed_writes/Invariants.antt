-- The items to come give, after the buffer so far, what all items give, and there is at most one value for each item.
use Rattle.std.proofs.Common.{◌≡◌, ◌≤◌, length, drop}
use Rattle.mk_client.specs.Computed.{after_items, empty_buffer}
use Rattle.mk_client.proofs.attempt.computed_writes.Given as goal

abbrev pub invariant-loop-item : goal.invariant-loop-item
invariant-loop-item g l =
    (after_items l.reads empty_buffer l.items ≡ after_items l.reads l.buffer (drop l.item-index l.items))
    × (length l.buffer.values ≤ l.item-index)
