use Rattle.std.proofs.Common.{◌≡◌, ℕ, true, length, drop}
use Rattle.mk_txn.specs.LatestWrites.{after_writes}
use Rattle.mk_follow.specs.Rules.{picks}
use Rattle.mk_follow.specs.Rows.{row_at}
use Rattle.mk_follow.proofs.rows.write_items.Given as goal

-- with the writes that are left each key that is picked comes to all of them
abbrev pub invariant-loop-item : goal.invariant-loop-item
invariant-loop-item l =
    (length l.rows.items ≡ 256)
    × ((key : ℕ) → picks l.subscription key ≡ true →
    after_writes key l.stamp (row_at l.rows.items key) (drop l.item-index l.items) ≡ after_writes key l.stamp (row_at l.initial.rows.items key) l.items)
