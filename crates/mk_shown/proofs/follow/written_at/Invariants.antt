use Rattle.std.proofs.Common.{◌≡◌, ◌≤◌, ◌+◌, ◌-◌, List}
use Rattle.std.specs.Prelude.{count_by}
use Rattle.mk_txn.specs.Transactions.{Transaction}
use Rattle.mk_model.specs.ColumnState.{numbers_from}
use Rattle.mk_model.specs.OneCopy.{version_in}
use Rattle.mk_report.specs.StoreTexts.{is_written}
use Rattle.mk_past.specs.Pasts.{copy_at}
use Rattle.mk_past.specs.Indexes.{IsPastOf}
use Rattle.mk_shown.specs.FollowTexts.{written_in}
use Rattle.mk_shown.proofs.follow.written_at.Given as goal

-- with the keys that are left it comes to all of them
abbrev pub invariant-each : goal.invariant-each
invariant-each l = record {
  counted : (commits : List Transaction) → IsPastOf l.past commits →
      l.count + count_by (λ key. is_written (version_in (copy_at l.stamp commits) key)) (numbers_from l.key (l.keys - l.key)) ≡ written_in (copy_at l.stamp commits) l.keys;
  few : l.count ≤ l.key;
}
