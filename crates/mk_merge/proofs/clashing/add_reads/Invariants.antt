use Rattle.std.proofs.Common.{◌≡◌, ℕ, drop, ◌&&◌, ◌||◌, ◌==◌}
use Rattle.std.specs.List.{list_any}
use Rattle.mk_txn.specs.declared.Stamp.{Stamp}
use Rattle.mk_txn.specs.Clashes.{is_between}
use Rattle.mk_merge.specs.Clashing.{reads_over, spans_at}
use Rattle.mk_merge.specs.Spanning.{is_spanned}
use Rattle.mk_merge.proofs.clashing.add_reads.Given as goal

abbrev pub invariant-loop-item : goal.invariant-loop-item
invariant-loop-item l =
    (key : ℕ) (stamp : Stamp) → (is_spanned stamp (spans_at key l.readers.entries) || list_any (λ item. key == item.key && is_between item.version stamp l.txn.stamp) (drop l.item-index l.txn.reads)) ≡ (is_spanned stamp (spans_at key l.fn.readers.entries) || reads_over key stamp l.txn)
