-- Commits by the keys that they read and write, and by their numbers.
use Rattle.std.specs.Prelude.{◌≡◌, ℕ, Bool, ◌&&◌, ◌==◌, List, [], unwrap_or}
use Rattle.std.specs.List.{list_any}
use Rattle.std.specs.Ordering.{nat_cmp}
use Rattle.std.specs.Map.{lookup}
use Rattle.std.specs.BTreeMap.{is_at}
use Rattle.mk_txn.specs.declared.Stamp.{Stamp}
use Rattle.mk_txn.specs.declared.TxnId.{TxnId}
use Rattle.mk_txn.specs.Transactions.{Transaction, same_id, id_cmp}
use Rattle.mk_txn.specs.Clashes.{writes_key, is_between}
use Rattle.mk_merge.specs.declared.spanning.Span.{Span}
use Rattle.mk_merge.specs.Spanning.{is_spanned}

-- whether the transaction read this key at a version between which and itself the stamp lies
abbrev pub reads_over : ℕ → Stamp → Transaction → Bool
reads_over key stamp txn = list_any (λ item. key == item.key && is_between item.version stamp txn.stamp) txn.reads

-- the spans of a key
abbrev pub spans_at : ℕ → List (ℕ × List Span) → List Span
spans_at key readers = unwrap_or (lookup (is_at (nat_cmp key)) readers) []

-- the stamps of a key
abbrev pub stamps_at : ℕ → List (ℕ × List Stamp) → List Stamp
stamps_at key writers = unwrap_or (lookup (is_at (nat_cmp key)) writers) []

-- a key's spans are over the stamps that lie between a version of it which one of the commits read and that commit
abbrev pub AreReads : List Transaction → List (ℕ × List Span) → Type 0
AreReads commits readers = (key : ℕ) (stamp : Stamp) → is_spanned stamp (spans_at key readers) ≡ list_any (reads_over key stamp) commits

-- a key's stamps are those of the commits that write it
abbrev pub AreWrites : List Transaction → List (ℕ × List Stamp) → Type 0
AreWrites commits writers = (key : ℕ) (test : Stamp → Bool) → list_any test (stamps_at key writers) ≡ list_any (λ txn. writes_key key txn && test txn.stamp) commits

-- the numbers are those of the commits
abbrev pub AreTheirs : List Transaction → List TxnId → Type 0
AreTheirs commits ids = (id : TxnId) → list_any (is_at (id_cmp id)) ids ≡ list_any (λ c. same_id c.id id) commits

-- commits by what they read and by what they write, and their numbers
pub record AreFiled (commits : List Transaction) (readers : List (ℕ × List Span)) (writers : List (ℕ × List Stamp)) (ids : List TxnId) : Type 0 where
  pub read : AreReads commits readers
  pub written : AreWrites commits writers
  pub theirs : AreTheirs commits ids
