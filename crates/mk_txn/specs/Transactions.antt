-- A transaction, as contracts see it.
use Rattle.std.specs.Prelude.{◌≡◌, ◌≤◌, ℕ, Bool, true, false, ◌==◌, ◌&&◌, ◌||◌, not, nat_lt, List, [], ◌∷◌, map, length}
use Rattle.std.specs.List.{list_any, list_all}
use Rattle.std.specs.declared.cmp.Ordering.{Ordering}
use Rattle.std.specs.Ordering.{nat_cmp, ordering_then}
use Rattle.mk_lists.specs.Among.{Among}
use Rattle.mk_txn.specs.declared.Stamp.{Stamp}
use Rattle.mk_txn.specs.declared.TxnId.{TxnId}
use Rattle.mk_txn.specs.declared.Value.{Value}
use Rattle.mk_txn.specs.declared.Value.TheVariants.{Number, Absent}
use Rattle.mk_txn.specs.declared.ReadItem.{ReadItem}
use Rattle.mk_txn.specs.declared.WriteItem.{WriteItem}
use Rattle.mk_txn.specs.Stamps.{is_before}

-- what every key holds at first
abbrev pub initial_value : Value
initial_value = Number 0

-- whether two keys hold the same
abbrev pub same_value : Value → Value → Bool
same_value (Number a) (Number b) = a == b
same_value (Number a) Absent = false
same_value Absent (Number b) = false
same_value Absent Absent = true

-- the number, the stamp, what was read and what is to be written
pub record Transaction : Type 0 where
  pub id : TxnId
  pub stamp : Stamp
  pub reads : List ReadItem
  pub writes : List WriteItem

-- whether two numbers name one attempt
abbrev pub same_id : TxnId → TxnId → Bool
same_id a b = a.client == b.client && a.seq == b.seq

-- by client, and then by place among the client's attempts
abbrev pub id_before : TxnId → TxnId → Bool
id_before a b = nat_lt a.client b.client || (a.client == b.client && nat_lt a.seq b.seq)

-- what comparing two numbers of attempts answers
abbrev pub id_cmp : TxnId → TxnId → Ordering
id_cmp a b = ordering_then (nat_cmp a.client b.client) (nat_cmp a.seq b.seq)

-- the keys of reads, in order of mention
abbrev pub read_keys : List ReadItem → List ℕ
read_keys items = map (λ item. item.key) items

-- the keys of writes, in order of mention
abbrev pub write_keys : List WriteItem → List ℕ
write_keys items = map (λ item. item.key) items

-- no number stands at two places
abbrev pub are_distinct : List ℕ → Bool
are_distinct [] = true
are_distinct (x ∷ xs) = not (list_any (λ y. y == x) xs) && are_distinct xs

-- each version read is below the stamp
abbrev pub is_above_reads : Stamp → List ReadItem → Bool
is_above_reads stamp items = list_all (λ item. is_before item.version stamp) items

-- what every transaction keeps: at most 16 reads and 16 writes, each key once in a list, its stamp above what it read
pub record IsTransaction (txn : Transaction) : Type 0 where
  pub few_reads : length txn.reads ≤ 16
  pub few_writes : length txn.writes ≤ 16
  pub distinct_reads : are_distinct (read_keys txn.reads) ≡ true
  pub distinct_writes : are_distinct (write_keys txn.writes) ≡ true
  pub above : is_above_reads txn.stamp txn.reads ≡ true

-- equal numbers mean equal transactions, and other numbers have other stamps
pub record AreCoherent (txns : List Transaction) : Type 0 where
  pub one_of_a_number : (a b : Transaction) → Among a txns → Among b txns → a.id ≡ b.id → a ≡ b
  pub one_of_a_stamp : (a b : Transaction) → Among a txns → Among b txns → a.stamp ≡ b.stamp → a.id ≡ b.id
