use Rattle.std.proofs.Common.{◌≡◌, ℕ, Bool, drop, ◌&&◌, ◌||◌, ◌==◌}
use Rattle.std.specs.List.{list_any}
use Rattle.mk_txn.specs.declared.Stamp.{Stamp}
use Rattle.mk_txn.specs.Clashes.{writes_key}
use Rattle.mk_merge.specs.Clashing.{stamps_at}
use Rattle.mk_merge.proofs.clashing.add_writes.Given as goal

abbrev pub invariant-loop-item : goal.invariant-loop-item
invariant-loop-item l =
    (key : ℕ) (test : Stamp → Bool) → (list_any test (stamps_at key l.writers.entries) || (list_any (λ item. item.key == key) (drop l.item-index l.txn.writes) && test l.txn.stamp)) ≡ (list_any test (stamps_at key l.fn.writers.entries) || (writes_key key l.txn && test l.txn.stamp))
