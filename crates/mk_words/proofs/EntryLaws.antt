-- What is found in a replica's record after a change of it.
use Rattle.std.proofs.Common.{◌≡◌, false, refl, sym, subst, arith, List, [], ◌∷◌, ◌++◌, Some, None}
use Rattle.std.specs.Prelude.{option_map}
use Rattle.mk_txn.specs.declared.TxnId.{TxnId}
use Rattle.mk_txn.specs.Transactions.{Transaction, same_id}
use Rattle.mk_txn.proofs.IdOrder.{same_id-apart, same_id-itself}
use Rattle.mk_words.specs.declared.Entry.{Entry}
use Rattle.mk_words.specs.Entries.{opened, entry_of, change_entry}

-- a new entry is found by its id, where no other was
pub entry_of-opened : (txn : Transaction) (entries : List Entry) → entry_of txn.id entries ≡ None → entry_of txn.id (entries ++ opened txn ∷ []) ≡ Some (opened txn)
entry_of-opened txn [] e = grind (arith, same_id-itself txn.id)
entry_of-opened txn (x ∷ xs) e = grind (arith, e, entry_of-opened txn xs)

-- the same, where the id is given apart
pub entry_of-opened_as : (id : TxnId) (txn : Transaction) (entries : List Entry) → txn.id ≡ id → entry_of id entries ≡ None → entry_of id (entries ++ opened txn ∷ []) ≡ Some (opened txn)
entry_of-opened_as id txn entries same none =
    subst (λ (x : TxnId). entry_of x (entries ++ opened txn ∷ []) ≡ Some (opened txn)) same
    (entry_of-opened txn entries (subst (λ (x : TxnId). entry_of x entries ≡ None) (sym same) none))

pub entry_of-opened_other : (id : TxnId) (txn : Transaction) (entries : List Entry) → same_id txn.id id ≡ false → entry_of id (entries ++ opened txn ∷ []) ≡ entry_of id entries
entry_of-opened_other id txn [] e = grind (arith, e)
entry_of-opened_other id txn (x ∷ xs) e = grind (arith, entry_of-opened_other id txn xs e)

-- a change that keeps the transaction changes what is found
pub entry_of-change : (id : TxnId) (f : Entry → Entry) (entries : List Entry) → ((e : Entry) → (f e).txn ≡ e.txn) →
    entry_of id (change_entry id f entries) ≡ option_map f (entry_of id entries)
entry_of-change id f [] same = refl
entry_of-change id f (x ∷ xs) same = grind (arith, same x, entry_of-change id f xs same)

pub entry_of-change_other : (id other : TxnId) (f : Entry → Entry) (entries : List Entry) → ((e : Entry) → (f e).txn ≡ e.txn) → same_id id other ≡ false →
    entry_of other (change_entry id f entries) ≡ entry_of other entries
entry_of-change_other id other f [] same apart = refl
entry_of-change_other id other f (x ∷ xs) same apart = grind (arith, same x, apart, entry_of-change_other id other f xs same apart, same_id-apart x.txn.id id other)
