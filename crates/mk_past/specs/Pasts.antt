-- What the store held at a stamp.
use Rattle.std.specs.Prelude.{ℕ, Bool, not, List, filter, length}
use Rattle.mk_txn.specs.declared.Stamp.{Stamp}
use Rattle.mk_txn.specs.Stamps.{is_before}
use Rattle.mk_txn.specs.Transactions.{Transaction}
use Rattle.mk_model.specs.OneCopy.{Copy, one_copy}

-- whether a stamp is at or below the first
abbrev pub is_upto : Stamp → Stamp → Bool
is_upto stamp other = not (is_before stamp other)

-- the commits with stamps at or below this one
abbrev pub commits_upto : Stamp → List Transaction → List Transaction
commits_upto stamp commits = filter (λ txn. is_upto stamp txn.stamp) commits

-- what those leave on one copy
abbrev pub copy_at : Stamp → List Transaction → Copy
copy_at stamp commits = one_copy (commits_upto stamp commits)

-- how many they are
abbrev pub count_at : Stamp → List Transaction → ℕ
count_at stamp commits = length (commits_upto stamp commits)
