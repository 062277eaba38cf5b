use Rattle.std.proofs.Common.{ℕ, List, map, sym, subst}
use Rattle.mk_txn.specs.declared.Stamp.{Stamp}
use Rattle.mk_txn.specs.declared.TxnId.{TxnId}
use Rattle.mk_feed_words.specs.declared.Received.{Received as Commit}
use Rattle.mk_follow.specs.Commits.{CommitsKept}
use Rattle.mk_follow.proofs.CommitLaws.{none-kept}
use Rattle.mk_follow.proofs.commits.Commits.new.Goals as goal

pub invariant_of-result : goal.invariant_of-result
invariant_of-result c =
    let columns : List (List (Stamp × ℕ)) = map (λ column. column.items) c.loop.orders.items in
    subst (λ (t : List Commit × List TxnId × List (Stamp × ℕ)). CommitsKept t.0 t.1 t.2 columns)
    (λ i. (sym c.new-2.ensures.items i, sym c.new-3.ensures.empty i, sym c.new-4.ensures.items i))
    (none-kept columns c.loop.invariant.1)
