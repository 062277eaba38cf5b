-- Two lists in order of number, taken from one after another.
use Rattle.std.specs.Prelude.{◌≡◌, ◌<◌, ℕ, Bool, true, false, List, length, slice_index_or}
use Rattle.mk_txn.specs.Transactions.{id_before}
use Rattle.mk_words.specs.declared.Fated.{Fated}

-- which of two lists the next is taken from, where each is taken up to a place: the one whose next is first, and the
-- other where one is at its end
pub record TakesAdded (list : List Fated) (at : ℕ) (more : List Fated) (next : ℕ) (added : Bool) : Type 0 where
  pub more_within : added ≡ true → next < length more
  pub more_first : (d : Fated) → added ≡ true → at < length list → id_before (slice_index_or list at d).txn.id (slice_index_or more next d).txn.id ≡ false
  pub list_within : added ≡ false → next < length more → at < length list
  pub list_first : (d : Fated) → added ≡ false → next < length more → id_before (slice_index_or list at d).txn.id (slice_index_or more next d).txn.id ≡ true
