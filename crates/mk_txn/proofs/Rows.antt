-- Worked cases, by computation.
use Rattle.std.proofs.Common.{◌≡◌, true, false, refl, [], ◌∷◌, Some, None}
use Rattle.mk_txn.specs.declared.Value.TheVariants.{Number}
use Rattle.mk_txn.specs.declared.ReadItem.{ReadItem}
use Rattle.mk_txn.specs.declared.faults.TxnError.TheVariants.{Repeated, NotAbove}
use Rattle.mk_txn.specs.Stamps.{next_stamp_of}
use Rattle.mk_txn.specs.Transactions.{Transaction}
use Rattle.mk_txn.specs.TxnFaults.{txn_fault}
use Rattle.mk_txn.specs.Clashes.{clashes, conflict}
use Rattle.mk_txn.specs.MarkMaps.{raised, joined_marks}

-- the last time is 2^62: there is no later stamp
no_stamp_left : next_stamp_of 1 4611686018427387904 0 [] ≡ None
no_stamp_left = refl

first_stamp : next_stamp_of 1 0 0 [] ≡ Some (record { time = 1; client = 1 })
first_stamp = refl

-- a read of key 0 at 20.1
read_at_20 : ReadItem
read_at_20 = record { key = 0; version = record { time = 20; client = 1 }; value = Number 7 }

-- the clock says 5, and the stamp is above the version read
raised_stamp : next_stamp_of 2 0 5 (read_at_20 ∷ []) ≡ Some (record { time = 21; client = 2 })
unfolding read_at_20
raised_stamp = refl

-- 1.1 at 10.1 reads and writes key 0
early : Transaction
early = record { id = record { client = 1; seq = 1 }; stamp = record { time = 10; client = 1 }; reads = record { key = 0; version = record { time = 0; client = 0 }; value = Number 0 } ∷ []; writes = record { key = 0; value = Number 5 } ∷ [] }

-- 2.1 at 11.2 does the same
late : Transaction
late = record { id = record { client = 2; seq = 1 }; stamp = record { time = 11; client = 2 }; reads = record { key = 0; version = record { time = 0; client = 0 }; value = Number 0 } ∷ []; writes = record { key = 0; value = Number 6 } ∷ [] }

late_clashes : clashes late early ≡ true
unfolding late early
late_clashes = refl

early_does_not : clashes early late ≡ false
unfolding late early
early_does_not = refl

they_conflict : conflict early late ≡ true
unfolding late early
they_conflict = refl

not_above : txn_fault (record { time = 20; client = 1 }) (read_at_20 ∷ []) [] ≡ Some (NotAbove 0)
unfolding read_at_20
not_above = refl

-- a repeated key comes before a version that is too late
repeated : txn_fault (record { time = 20; client = 1 }) (read_at_20 ∷ read_at_20 ∷ []) [] ≡ Some (Repeated 0)
unfolding read_at_20
repeated = refl

joined : joined_marks (raised 3 7 (raised 1 2 [])) (raised 1 5 (raised 2 4 [])) ≡ (1, 5) ∷ (2, 4) ∷ (3, 7) ∷ []
joined = refl
