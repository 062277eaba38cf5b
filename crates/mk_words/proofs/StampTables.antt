-- A table from stamps to transactions: its entries are the transactions in order of stamp.
use Rattle.std.proofs.Common.{◌≡◌, ℕ, zero, suc, ◌<◌, ◌+◌, inl, inr, Bool, true, false, refl, sym, ap, subst, ◌∙◌, List, [], ◌∷◌, length, get_or, map, drop, add-one, arith, if◌then◌else◌, Ordering, Less, Equal, Greater}
use Rattle.std.proofs.lemmas.Bool.{false≢true}
use Rattle.std.proofs.Math.Seq.{drop-cons}
use Rattle.std.specs.Ordering.{is_lt, is_eq, match_ordering}
use Rattle.std.specs.BTreeMap.{insert_entry}
use Rattle.std.specs.Borrow.{Bor}
use Rattle.mk_lists.specs.Among.{Among, Each, AllDistinct}
use Rattle.mk_txn.specs.declared.Stamp.{Stamp}
use Rattle.mk_txn.specs.Stamps.{is_before, same_stamp, stamp_cmp}
use Rattle.mk_txn.specs.Transactions.{Transaction}
use Rattle.mk_txn.proofs.StampOrder.{is_before-not_back, same_stamp-tells, same_stamp-itself, stamp_cmp-less, stamp_cmp-equal, same-from_neither}
use Rattle.mk_words.specs.Bases.{placed_by_stamp, in_stamp_order}
use Rattle.mk_words.proofs.StampOrdering.{stamps_in, ordered-stamp}

-- the transactions of the entries of a table
abbrev pub txns_at : List (Stamp × Bor Transaction) → List Transaction
txns_at entries = map (λ e. e.1.now) entries

-- each transaction stands at its stamp
abbrev pub AreStamped : List (Stamp × Bor Transaction) → Type 0
AreStamped entries = Each (λ e. e.0 ≡ e.1.now.stamp) entries

before_from_less : (a b : Stamp) → stamp_cmp a b ≡ Less → is_before a b ≡ true
before_from_less a b e = sym (stamp_cmp-less a b) ∙ ap is_lt e

before_from_greater : (a b : Stamp) → stamp_cmp a b ≡ Greater → is_before b a ≡ true
before_from_greater a b e = by_test (is_before b a) refl
  where
    not_less : is_before a b ≡ false
    not_less = sym (stamp_cmp-less a b) ∙ ap is_lt e

    not_equal : same_stamp a b ≡ false
    not_equal = sym (stamp_cmp-equal a b) ∙ ap is_eq e

    by_test : (t : Bool) → is_before b a ≡ t → is_before b a ≡ true
    by_test true h = h
    by_test false h = absurd (false≢true (sym not_equal ∙ subst (λ x. same_stamp a x ≡ true) (same-from_neither a b not_less h) (same_stamp-itself a)))

same_from_equal : (a b : Stamp) → stamp_cmp a b ≡ Equal → a ≡ b
same_from_equal a b e = same_stamp-tells a b (sym (stamp_cmp-equal a b) ∙ ap is_eq e)

txns_at-insert : (entries : List (Stamp × Bor Transaction)) (txn : Bor Transaction) → AreStamped entries →
    (Among txn.now.stamp (stamps_in (txns_at entries)) → ⊥) →
    txns_at (insert_entry stamp_cmp entries txn.now.stamp txn) ≡ placed_by_stamp txn.now (txns_at entries)
txns_at-insert [] txn keyed new = refl
txns_at-insert (first ∷ rest) txn keyed new = by_order (txns_at-insert rest txn keyed.1 (λ a. new (inr a))) (stamp_cmp txn.now.stamp first.0) refl
  where
    by_order : txns_at (insert_entry stamp_cmp rest txn.now.stamp txn) ≡ placed_by_stamp txn.now (txns_at rest) → (o : Ordering) →
        stamp_cmp txn.now.stamp first.0 ≡ o
        → txns_at (match_ordering o ((txn.now.stamp, txn) ∷ first ∷ rest) ((first.0, txn) ∷ rest) (first ∷ insert_entry stamp_cmp rest txn.now.stamp txn))
        ≡ (if is_before first.1.now.stamp txn.now.stamp then first.1.now ∷ placed_by_stamp txn.now (txns_at rest) else txn.now ∷ (first.1.now ∷ txns_at rest))
    by_order more Less e =
        let here : stamp_cmp txn.now.stamp first.1.now.stamp ≡ Less = ap (stamp_cmp txn.now.stamp) (sym keyed.0) ∙ e in
        sym (ap (λ b. if b then first.1.now ∷ placed_by_stamp txn.now (txns_at rest) else txn.now ∷ (first.1.now ∷ txns_at rest)) (is_before-not_back txn.now.stamp first.1.now.stamp (before_from_less txn.now.stamp first.1.now.stamp here)))
    by_order more Equal e = absurd (new (inl (sym (same_from_equal txn.now.stamp first.0 e ∙ keyed.0))))
    by_order more Greater e =
        let here : stamp_cmp txn.now.stamp first.1.now.stamp ≡ Greater = ap (stamp_cmp txn.now.stamp) (sym keyed.0) ∙ e in
        ap (λ ys. first.1.now ∷ ys) more
        ∙ sym (ap (λ b. if b then first.1.now ∷ placed_by_stamp txn.now (txns_at rest) else txn.now ∷ (first.1.now ∷ txns_at rest)) (before_from_greater txn.now.stamp first.1.now.stamp here))

AreStamped-insert : (entries : List (Stamp × Bor Transaction)) (txn : Bor Transaction) → AreStamped entries →
    AreStamped (insert_entry stamp_cmp entries txn.now.stamp txn)
AreStamped-insert [] txn keyed = (refl, tt)
AreStamped-insert (first ∷ rest) txn keyed = by_order (AreStamped-insert rest txn keyed.1) (stamp_cmp txn.now.stamp first.0) refl
  where
    by_order : AreStamped (insert_entry stamp_cmp rest txn.now.stamp txn) → (o : Ordering) → stamp_cmp txn.now.stamp first.0 ≡ o →
        AreStamped (match_ordering o ((txn.now.stamp, txn) ∷ first ∷ rest) ((first.0, txn) ∷ rest) (first ∷ insert_entry stamp_cmp rest txn.now.stamp txn))
    by_order more Less e = (refl, keyed)
    by_order more Equal e = (sym (same_from_equal txn.now.stamp first.0 e), keyed.1)
    by_order more Greater e = (keyed.0, more)

drop-at : (xs : List Transaction) (i : ℕ) (x : Transaction) → i < length xs → x ≡ get_or xs i x → drop i xs ≡ x ∷ drop (i + 1) xs
drop-at xs i x within is =
    subst (λ y. drop i xs ≡ y ∷ drop (i + 1) xs) (sym is) (subst (λ k. drop i xs ≡ get_or xs i x ∷ drop k xs) (sym (add-one i)) (drop-cons xs i x within))

-- those from a place on stand in the table, and their stamps are distinct
pub record AreInTable (all : List Transaction) (left : ℕ) (entries : List (Stamp × Bor Transaction)) : Type 0 where
  pub keyed : AreStamped entries
  pub ordered : txns_at entries ≡ in_stamp_order (drop left all)

distinct-drop : (all : List Transaction) (i : ℕ) → AllDistinct (stamps_in all) → AllDistinct (stamps_in (drop i all))
distinct-drop all zero h = h
distinct-drop [] (suc i) h = h
distinct-drop (txn ∷ all) (suc i) h = distinct-drop all i h.1

pub table-next : (all : List Transaction) (left before : ℕ) (txn : Bor Transaction) (stamp : Stamp) (old new : List (Stamp × Bor Transaction)) →
    AllDistinct (stamps_in all) → left ≡ before + 1 → before < length all → txn.now ≡ get_or all before txn.now → stamp ≡ txn.now.stamp
    → new ≡ insert_entry stamp_cmp old stamp txn → AreInTable all left old → AreInTable all before new
table-next all left before txn stamp old new distinct is within at key made h = record {
  keyed = subst AreStamped (sym inserted) (AreStamped-insert old txn h.keyed);
  ordered = ap txns_at inserted ∙ txns_at-insert old txn h.keyed fresh ∙ ap (placed_by_stamp txn.now) here ∙ sym (ap in_stamp_order split);
} where
  inserted : new ≡ insert_entry stamp_cmp old txn.now.stamp txn
  inserted = made ∙ ap (λ k. insert_entry stamp_cmp old k txn) key

  here : txns_at old ≡ in_stamp_order (drop (before + 1) all)
  here = h.ordered ∙ ap (λ k. in_stamp_order (drop k all)) is

  split : drop before all ≡ txn.now ∷ drop (before + 1) all
  split = drop-at all before txn.now within at

  fresh : Among txn.now.stamp (stamps_in (txns_at old)) → ⊥
  fresh a =
      let d : AllDistinct (stamps_in (txn.now ∷ drop (before + 1) all)) = subst (λ ts. AllDistinct (stamps_in ts)) split (distinct-drop all before distinct) in
      d.0 (ordered-stamp txn.now.stamp (drop (before + 1) all) (subst (λ ts. Among txn.now.stamp (stamps_in ts)) here a))

pub stamps-now : (txns : List (Bor Transaction)) → map (λ t. t.now.stamp) txns ≡ stamps_in (map (λ t. t.now) txns)
stamps-now [] = refl
stamps-now (t ∷ txns) = ap (λ ss. t.now.stamp ∷ ss) (stamps-now txns)
