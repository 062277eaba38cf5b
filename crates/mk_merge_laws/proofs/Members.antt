-- Lists in order of number that have the same members, and what is put in such an order.
use Rattle.std.proofs.Common.{◌≡◌, ◌⊎◌, inl, inr, Bool, true, false, refl, sym, subst, ◌∙◌, List, [], ◌∷◌, cond}
use Rattle.std.proofs.lemmas.Bool.{false≢true}
use Rattle.mk_lists.specs.Among.{Among, Each, Each-among}
use Rattle.mk_txn.specs.declared.TxnId.{TxnId}
use Rattle.mk_txn.specs.Transactions.{Transaction, AreCoherent, same_id, id_before}
use Rattle.mk_txn.proofs.IdOrder.{id_before-itself, id_before-through, same_id-tells}
use Rattle.mk_words.specs.Bases.{placed_by_id, in_id_order}
use Rattle.mk_merge_laws.proofs.Orders.{ordered_from}

-- ---- order of number

-- each number is before all that follow it
abbrev pub InOrder : {X : Type 0} → (X → TxnId) → List X → Type 0
InOrder id_of [] = Unit {0}
InOrder id_of (x ∷ xs) = Each (λ y. id_before (id_of x) (id_of y) ≡ true) xs × InOrder id_of xs

no_cycle : (a b : TxnId) → id_before a b ≡ true → id_before b a ≡ true → ⊥
no_cycle a b p q = false≢true (sym (id_before-itself a) ∙ id_before-through a b a p q)

-- the first is not among the others
not_later : {X : Type 0} (id_of : X → TxnId) (x z : X) (xs : List X) → Each (λ y. id_before (id_of x) (id_of y) ≡ true) xs → x ≡ z → Among z xs → ⊥
not_later {X} id_of x z xs h e a =
    let up : id_before (id_of x) (id_of z) ≡ true = Each-among (λ y. id_before (id_of x) (id_of y) ≡ true) z xs h a in
    false≢true (sym (id_before-itself (id_of x)) ∙ subst (λ (w : X). id_before (id_of x) (id_of w) ≡ true) (sym e) up)

-- lists in order with the same members are one list
pub same-members : {X : Type 0} (id_of : X → TxnId) (xs ys : List X) → InOrder id_of xs → InOrder id_of ys → ((x : X) → Among x xs → Among x ys) → ((x : X) → Among x ys → Among x xs) → xs ≡ ys
same-members id_of [] [] h k to back = refl
same-members id_of [] (y ∷ ys) h k to back = absurd (back y (inl refl))
same-members id_of (x ∷ xs) [] h k to back = absurd (to x (inl refl))
same-members {X} id_of (x ∷ xs) (y ∷ ys) h k to back = let e = heads (to x (inl refl)) (back y (inl refl)) in let more = tails e (same-members id_of xs ys h.1 k.1) in (λ i. e i ∷ more i)
  where
    heads : (y ≡ x) ⊎ Among x ys → (x ≡ y) ⊎ Among y xs → x ≡ y
    heads (inl e) b = sym e
    heads (inr a) (inl e) = e
    heads (inr a) (inr b) =
        absurd (no_cycle (id_of x) (id_of y) (Each-among (λ z. id_before (id_of x) (id_of z) ≡ true) y xs h.0 b) (Each-among (λ z. id_before (id_of y) (id_of z) ≡ true) x ys k.0 a))

    tails : x ≡ y → (((z : X) → Among z xs → Among z ys) → ((z : X) → Among z ys → Among z xs) → xs ≡ ys) → xs ≡ ys
    tails e again = again
        (λ z a. elim (to z (inr a)) [ inl f ↦ absurd (not_later id_of x z xs h.0 (e ∙ f) a) | inr c ↦ c ])
        (λ z a. elim (back z (inr a)) [ inl f ↦ absurd (not_later id_of y z ys k.0 (sym e ∙ f) a) | inr c ↦ c ])

-- ---- what is put in order

placed-keeps : (t txn : Transaction) (txns : List Transaction) → ((u : Transaction) → Among u txns → u.id ≡ txn.id → u ≡ txn) → Among t (txn ∷ txns) → Among t (placed_by_id txn txns)
placed-keeps t txn [] one a = a
placed-keeps t txn (first ∷ rest) one a = by (placed-keeps t txn rest (λ u b. one u (inr b))) (id_before first.id txn.id) (same_id first.id txn.id) refl a
  where
    by : (Among t (txn ∷ rest) → Among t (placed_by_id txn rest)) → (b c : Bool) → same_id first.id txn.id ≡ c → Among t (txn ∷ (first ∷ rest)) → Among t (cond b (first ∷ placed_by_id txn rest) (cond c (first ∷ rest) (txn ∷ (first ∷ rest))))
    by again true c e (inl same) = inr (again (inl same))
    by again true c e (inr (inl same)) = inl same
    by again true c e (inr (inr a)) = inr (again (inr a))
    by again false true e (inl same) = inl (one first (inl refl) (same_id-tells first.id txn.id e) ∙ same)
    by again false true e (inr a) = a
    by again false false e a = a

pub ordered-keeps : (all txns : List Transaction) (t : Transaction) → AreCoherent all → ((u : Transaction) → Among u txns → Among u all) → Among t txns → Among t (in_id_order txns)
ordered-keeps all [] t coherent within a = absurd a
ordered-keeps all (txn ∷ txns) t coherent within a =
    placed-keeps t txn (in_id_order txns) (λ u b e. coherent.one_of_a_number u txn (within u (inr (ordered_from u txns b))) (within txn (inl refl)) e)
    (elim a [ inl e ↦ inl e | inr b ↦ inr (ordered-keeps all txns t coherent (λ u c. within u (inr c)) b) ])
