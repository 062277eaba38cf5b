-- What is made of the commits and the marks that columns hand over. These marks are stamps with counts; those of clients
-- are others.
use Rattle.std.specs.Prelude.{◌≡◌, ℕ, zero, suc, Bool, not, ◌&&◌, ◌==◌, nat_le, List, map, filter, count_by, fold, if◌then◌else◌}
use Rattle.mk_txn.specs.declared.Stamp.{Stamp}
use Rattle.mk_txn.specs.Stamps.{zero_stamp, is_before, later_stamp}
use Rattle.mk_txn.specs.Transactions.{Transaction}
use Rattle.mk_model.specs.OneCopy.{Copy, one_copy}
use Rattle.mk_feed_words.specs.declared.Received.{Received}
use Rattle.mk_feed_words.specs.declared.Mark.{Mark}

-- of two stamps the one that is not after the other
abbrev pub earlier_stamp : Stamp → Stamp → Stamp
earlier_stamp a b = if is_before b a then b else a

-- a commit with a stamp at or below this one
abbrev pub is_upto : Stamp → Received → Bool
is_upto stamp r = not (is_before stamp r.txn.stamp)

-- such a commit of this column
abbrev pub is_counted : ℕ → Stamp → Received → Bool
is_counted column upto r = r.column == column && is_upto upto r

-- how many there are
abbrev pub counted : ℕ → Stamp → List Received → ℕ
counted column upto commits = count_by (is_counted column upto) commits

-- a mark counts just the commits of its column up to its stamp; these commits are the whole run's
abbrev pub IsHonest : List Received → Mark → Type 0
IsHonest commits mark = mark.count ≡ counted mark.column mark.upto commits

-- a mark is met where at least as many commits as it counts were received; each was received once
abbrev pub is_met : List Received → Mark → Bool
is_met commits mark = nat_le mark.count (counted mark.column mark.upto commits)

-- the later of a stamp and a mark of this column that is met
abbrev pub after_mark : ℕ → List Received → Stamp → Mark → Stamp
after_mark column commits stamp mark = if mark.column == column && is_met commits mark then later_stamp stamp mark.upto else stamp

-- the greatest mark of a column that is met, and 0.0 where there is none
abbrev pub reached : ℕ → List Received → List Mark → Stamp
reached column commits marks = fold (after_mark column commits) zero_stamp marks

-- the least of f 0 to f n
abbrev pub least_to : (ℕ → Stamp) → ℕ → Stamp
least_to f zero = f zero
least_to f (suc n) = earlier_stamp (least_to f n) (f (suc n))

-- the least of f over these many columns
abbrev pub least_over : (ℕ → Stamp) → ℕ → Stamp
least_over f zero = zero_stamp
least_over f (suc n) = least_to f n

-- the watermark: the least, over the columns, of the greatest mark met
abbrev pub watermark : ℕ → List Received → List Mark → Stamp
watermark columns commits marks = least_over (λ column. reached column commits marks) columns

-- the transactions with stamps at or below this one
abbrev pub txns_upto : Stamp → List Received → List Transaction
txns_upto stamp commits = map (λ r. r.txn) (filter (is_upto stamp) commits)

-- the picture: the one copy of the commits up to a stamp
abbrev pub picture_at : Stamp → List Received → Copy
picture_at stamp commits = one_copy (txns_upto stamp commits)
