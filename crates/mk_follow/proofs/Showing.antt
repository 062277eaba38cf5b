-- What the rows show after a commit, and after the next commit was passed.
use Rattle.std.proofs.Common.{◌≡◌, ℕ, true, false, cond, sym, ap, subst, ◌∙◌, List, [], ◌∷◌, ◌++◌}
use Rattle.mk_lists.specs.Among.{Among}
use Rattle.mk_txn.specs.declared.Stamp.{Stamp}
use Rattle.mk_txn.specs.declared.Value.{Value}
use Rattle.mk_txn.specs.Stamps.{is_before}
use Rattle.mk_txn.specs.Transactions.{Transaction}
use Rattle.mk_txn.specs.LatestWrites.{VersionedValue}
use Rattle.mk_txn.proofs.StampOrder.{is_before-up}
use Rattle.mk_copy_laws.specs.LatestLaws.{CopyHoldsLatest}
use Rattle.mk_feed_words.specs.declared.Received.{Received}
use Rattle.mk_feed_words.specs.Feed.{is_upto, txns_upto}
use Rattle.mk_follow.specs.declared.rule.PickRule.{PickRule}
use Rattle.mk_follow.specs.Rules.{picks}
use Rattle.mk_follow.specs.Rows.{row_at, after_txn, Shows}
use Rattle.mk_follow.specs.Orders.{IsNext}
use Rattle.mk_follow.specs.Kept.{CommitsStand}
use Rattle.mk_follow.proofs.Passing.{latest-one_more, next-one_more, latest-admitted, same-upto}

-- the next commit was written
pub shows-next : CopyHoldsLatest → (rule : PickRule) (commits : List Received) (shown : Stamp) (r : Received) (rows rows' : List (Stamp × Value)) → CommitsStand commits → IsNext shown commits r
    → Shows rule (txns_upto shown commits) rows → ((key : ℕ) → picks rule key ≡ true → row_at rows' key ≡ after_txn key r.txn (row_at rows key)) → Shows rule (txns_upto r.txn.stamp commits) rows'
shows-next holds rule commits shown r rows rows' stand next shows row key picked =
    row key picked
    ∙ ap (after_txn key r.txn) (shows key picked)
    ∙ sym (latest-one_more holds key (is_upto shown) (is_upto r.txn.stamp) commits r stand.apart next.among (next-one_more shown commits r next))

-- nothing is left up to the new stamp
pub shows-end : (rule : PickRule) (commits : List Received) (shown high : Stamp) (rows : List (Stamp × Value)) → is_before high shown ≡ false
    → ((x : Received) → Among x commits → is_before shown x.txn.stamp ≡ true → is_before high x.txn.stamp ≡ true) → Shows rule (txns_upto shown commits) rows → Shows rule (txns_upto high commits) rows
shows-end rule commits shown high rows order none shows = subst (λ (txns : List Transaction). Shows rule txns rows) (same-upto shown high commits order none) shows

-- where the next commit lies above the new stamp, all that are left do
pub none-left : (commits : List Received) (shown high : Stamp) (r : Received) → IsNext shown commits r → is_before high r.txn.stamp ≡ true
    → (x : Received) → Among x commits → is_before shown x.txn.stamp ≡ true → is_before high x.txn.stamp ≡ true
none-left commits shown high r next above x a e = is_before-up high r.txn.stamp x.txn.stamp above (next.least x a e)

-- at each key that is picked the rows have what they had, and a commit that does not lie above the stamp besides
abbrev pub IsAdmitted : PickRule → Stamp → Received → List (Stamp × Value) → List (Stamp × Value) → Type 0
IsAdmitted rule stamp r rows rows' = (key : ℕ) → picks rule key ≡ true → row_at rows' key ≡ cond (is_before stamp r.txn.stamp) (row_at rows key) (after_txn key r.txn (row_at rows key))

-- a commit came
pub shows-admitted : (rule : PickRule) (stamp : Stamp) (all : List Received) (r : Received) (rows rows' : List (Stamp × Value)) → Shows rule (txns_upto stamp all) rows
    → IsAdmitted rule stamp r rows rows' → Shows rule (txns_upto stamp (all ++ r ∷ [])) rows'
shows-admitted rule stamp all r rows rows' shows row key picked =
    row key picked
    ∙ ap (λ (v : VersionedValue). cond (is_before stamp r.txn.stamp) v (after_txn key r.txn v)) (shows key picked)
    ∙ sym (latest-admitted key stamp all r)
