-- The outcome that a list has of an attempt, found by halves.
use Rattle.std.proofs.Common.{◌≡◌, ℕ, zero, suc, ◌<◌, true, false, refl, sym, ap, ◌∙◌, subst, arith, List, [], ◌∷◌, length, get_or, add-one, Some, None, inl, inr}
use Rattle.std.proofs.lemmas.Bool.{cases_lt}
use Rattle.std.specs.List.Sorted.{IsNonDecreasingBy, IsPartitionPoint}
use Rattle.std.specs.Ordering.{is_lt, is_eq, ordering_index}
use Rattle.std.specs.declared.cmp.Ordering.TheVariants.{Less, Equal, Greater}
use Rattle.std.proofs.lemmas.List.Sorted.{searchable_from_sorted}
use Rattle.mk_lists.specs.Among.{Each}
use Rattle.mk_txn.specs.declared.TxnId.{TxnId}
use Rattle.mk_txn.specs.Transactions.{same_id, id_before, id_cmp}
use Rattle.mk_txn.proofs.IdOrder.{id_before-not_back, id_before-not_same, id_cmp-less, id_cmp-equal, id_cmp-total, same_id-tells}
use Rattle.mk_words.specs.declared.Fated.{Fated}
use Rattle.mk_words.specs.Bases.{IsInIdOrder, fate_in}
use Rattle.mk_merge.proofs.AscendingLaws.{Each-at, Each-back}

-- numbers in order can be searched by halves
rises : (list : List Fated) (k : ℕ) (d : Fated) → IsInIdOrder list → suc k < length list → is_lt (id_cmp (get_or list (suc k) d).txn.id (get_or list k d).txn.id) ≡ false
rises [] k d h lt = absurd (omega (arith, lt))
rises (f ∷ list) zero d h lt = id_cmp-less (get_or list 0 d).txn.id f.txn.id ∙ id_before-not_back f.txn.id (get_or list 0 d).txn.id (Each-at (λ later. id_before f.txn.id later.txn.id ≡ true) list 0 d h.0 (omega (arith, lt)))
rises (f ∷ list) (suc k) d h lt = rises list k d h.1 (omega (arith, lt))

searchable : (id : TxnId) (list : List Fated) → IsInIdOrder list → IsNonDecreasingBy (λ f. ordering_index (id_cmp f.txn.id id)) list
searchable id list h =
    searchable_from_sorted id_cmp-total (λ (f : Fated). f.txn.id) list id
    (λ k d low lt. subst (λ m. is_lt (id_cmp (get_or list m d).txn.id (get_or list k d).txn.id) ≡ false) (sym (add-one k)) (rises list k d h (omega (arith, lt))))

first-found : (id : TxnId) (f : Fated) (list : List Fated) → same_id f.txn.id id ≡ true → fate_in id (f ∷ list) ≡ Some f.outcome
first-found id f list e = grind (arith, e)

first-passed : (id : TxnId) (f : Fated) (list : List Fated) → same_id f.txn.id id ≡ false → fate_in id (f ∷ list) ≡ fate_in id list
first-passed id f list e = grind (arith, e)

-- an attempt that stands at a place has the outcome there
pub fate_in-there : (id : TxnId) (list : List Fated) (i : ℕ) (f : Fated) → IsInIdOrder list → i < length list → f ≡ get_or list i f → id_cmp (get_or list i f).txn.id id ≡ Equal → Some f.outcome ≡ fate_in id list
fate_in-there id [] i f h lt is e = absurd (omega (arith, lt))
fate_in-there id (g ∷ list) zero f h lt is e = ap (λ (x : Fated). Some x.outcome) is ∙ sym (first-found id g list (sym (id_cmp-equal g.txn.id id) ∙ ap is_eq e))
fate_in-there id (g ∷ list) (suc i) f h lt is e =
    let same : same_id (get_or list i f).txn.id id ≡ true = sym (id_cmp-equal (get_or list i f).txn.id id) ∙ ap is_eq e in
    let earlier : id_before g.txn.id id ≡ true = subst (λ (x : TxnId). id_before g.txn.id x ≡ true) (same_id-tells (get_or list i f).txn.id id same) (Each-at (λ later. id_before g.txn.id later.txn.id ≡ true) list i f h.0 (omega (arith, lt))) in
    fate_in-there id list i f h.1 (omega (arith, lt)) is e ∙ sym (first-passed id g list (id_before-not_same g.txn.id id earlier))

none_same : (id : TxnId) (list : List Fated) → Each (λ f. same_id f.txn.id id ≡ false) list → fate_in id list ≡ None
none_same id [] h = refl
none_same id (f ∷ list) h = first-passed id f list h.0 ∙ none_same id list h.1

-- an attempt that stands at none has none
pub fate_in-nowhere : (id : TxnId) (list : List Fated) (i : ℕ) → IsInIdOrder list → (IsNonDecreasingBy (λ f. ordering_index (id_cmp f.txn.id id)) list → IsPartitionPoint (λ f. id_cmp f.txn.id id ≡ Less) (λ f. id_cmp f.txn.id id ≡ Greater) list i) → None ≡ fate_in id list
fate_in-nowhere id list i h search = sym (none_same id list (Each-back (λ f. same_id f.txn.id id ≡ false) list 0 (λ k d low lt. other k d lt)))
  where
    parted : IsPartitionPoint (λ f. id_cmp f.txn.id id ≡ Less) (λ f. id_cmp f.txn.id id ≡ Greater) list i
    parted = search (searchable id list h)

    other : (k : ℕ) (d : Fated) → k < length list → same_id (get_or list k d).txn.id id ≡ false
    other k d lt = elim (cases_lt k i) [
      | inl below ↦ sym (id_cmp-equal (get_or list k d).txn.id id) ∙ ap is_eq (parted.0 k d (omega arith) below)
      | inr above ↦ sym (id_cmp-equal (get_or list k d).txn.id id) ∙ ap is_eq (parted.1 k d above lt)
    ]
