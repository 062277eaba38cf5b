-- A buffer into which all items were done.
use Rattle.std.proofs.Common.{◌≡◌, ℕ, ◌≤◌, List, length, drop, ap, ◌∙◌, drop_of_length-le}
use Rattle.mk_txn.specs.declared.ReadItem.{ReadItem}
use Rattle.mk_proc.specs.declared.Item.{Item}
use Rattle.mk_client.specs.Computed.{Buffer, after_items, empty_buffer, writes_of}

-- its writes are those of the items
pub writes_of-done : (items : List Item) (reads : List ReadItem) (buffer : Buffer) (done : ℕ)
    → after_items reads empty_buffer items ≡ after_items reads buffer (drop done items) → length items ≤ done → writes_of items reads ≡ buffer.writes
writes_of-done items reads buffer done same all =
    ap (λ (b : Buffer). b.writes) (same ∙ ap (after_items reads buffer) (drop_of_length-le items {i = done} all))
