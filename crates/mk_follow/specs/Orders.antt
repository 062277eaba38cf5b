-- Places of commits in order of stamp.
use Rattle.std.specs.Prelude.{◌≡◌, ℕ, Bool, true, false, not, ◌&&◌, List, [], ◌∷◌, count_by, Option, Some, None, slice_get, if◌then◌else◌}
use Rattle.mk_lists.specs.Among.{Among, Each}
use Rattle.mk_txn.specs.declared.Stamp.{Stamp}
use Rattle.mk_txn.specs.Stamps.{is_before}
use Rattle.mk_feed_words.specs.declared.Received.{Received}
use Rattle.mk_feed_words.specs.Feed.{is_upto}

-- no stamp is before one that stands ahead of it
abbrev pub IsAscending : List (Stamp × ℕ) → Type 0
IsAscending [] = Unit {0}
IsAscending (first ∷ rest) = Each (λ later. is_before later.0 first.0 ≡ false) rest × IsAscending rest

-- the entry behind all those whose stamps are not after its own
abbrev pub placed : Stamp × ℕ → List (Stamp × ℕ) → List (Stamp × ℕ)
placed entry [] = entry ∷ []
placed entry (first ∷ rest) = if is_before entry.0 first.0 then entry ∷ (first ∷ rest) else first ∷ placed entry rest

-- how many have stamps at or below this one
abbrev pub count_upto : Stamp → List (Stamp × ℕ) → ℕ
count_upto stamp order = count_by (λ entry. not (is_before stamp entry.0)) order

-- the entries ascend, and for each stamp as many lie at or below it as there are such commits that pass
pub record Counts (passes : Received → Bool) (commits : List Received) (order : List (Stamp × ℕ)) : Type 0 where
  pub ascending : IsAscending order
  pub counts : (stamp : Stamp) → count_upto stamp order ≡ count_by (λ r. passes r && is_upto stamp r) commits

-- an entry has the place of a commit and its stamp
pub record HasPlace (commits : List Received) (entry : Stamp × ℕ) : Type 0 where
  pub commit : Received
  pub stands : slice_get commits entry.1 ≡ Some commit
  pub stamp : entry.0 ≡ commit.txn.stamp

-- an entry of a commit
pub record HasEntry (order : List (Stamp × ℕ)) (commit : Received) : Type 0 where
  pub entry : Stamp × ℕ
  pub among : Among entry order
  pub stamp : entry.0 ≡ commit.txn.stamp

-- the entries are those of the commits
pub record IsOrderOf (commits : List Received) (order : List (Stamp × ℕ)) : Type 0 where
  pub counted : Counts (λ r. true) commits order
  pub places : Each (HasPlace commits) order
  pub entries : (r : Received) → Among r commits → HasEntry order r

-- the commit with the least stamp above this one
pub record IsNext (stamp : Stamp) (commits : List Received) (r : Received) : Type 0 where
  pub among : Among r commits
  pub above : is_before stamp r.txn.stamp ≡ true
  pub least : (other : Received) → Among other commits → is_before stamp other.txn.stamp ≡ true → is_before other.txn.stamp r.txn.stamp ≡ false

-- that commit, or none where no commit lies above
abbrev pub IsNextAbove : Stamp → List Received → Option Received → Type 0
IsNextAbove stamp commits (Some r) = IsNext stamp commits r
IsNextAbove stamp commits None = (other : Received) → Among other commits → is_before stamp other.txn.stamp ≡ false
