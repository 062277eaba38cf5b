-- The list of a base is in order of number, with each attempt once; putting transactions in order of stamp loses none.
use Rattle.std.proofs.Common.{◌≡◌, ◌⊎◌, Bool, true, false, refl, inl, inr, sym, ap, ◌∙◌, List, [], ◌∷◌, Some, subst, cond}
use Rattle.std.specs.Prelude.{map, find, option_map}
use Rattle.mk_lists.specs.Among.{Among, Each, Each-among, Each-weaker}
use Rattle.mk_txn.specs.declared.TxnId.{TxnId}
use Rattle.mk_txn.specs.declared.Outcome.{Outcome}
use Rattle.mk_txn.specs.Stamps.{is_before}
use Rattle.mk_txn.specs.Transactions.{Transaction, same_id, id_before}
use Rattle.mk_txn.proofs.IdOrder.{id_before-itself, id_before-through, id-from_neither, same_id-tells, same_id-itself}
use Rattle.mk_words.specs.declared.Fated.{Fated}
use Rattle.mk_words.proofs.StampOrdering.{placed-from, placed-there}
use Rattle.mk_words.specs.Bases.{IsInIdOrder, fate_in, fated, placed_by_id, in_id_order, placed_by_stamp, in_stamp_order}

-- each number is before all that follow it
abbrev pub IdsAscend : List Transaction → Type 0
IdsAscend [] = Unit {0}
IdsAscend (first ∷ rest) = Each (λ later. id_before first.id later.id ≡ true) rest × IdsAscend rest

each_placed : (P : Transaction → Type 0) (txn : Transaction) (txns : List Transaction) → P txn → Each P txns → Each P (placed_by_id txn txns)
each_placed P txn [] h k = (h, tt)
each_placed P txn (first ∷ rest) h k = by (id_before first.id txn.id) (same_id first.id txn.id) (each_placed P txn rest h k.1)
  where
    by : (a b : Bool) → Each P (placed_by_id txn rest) → Each P (cond a (first ∷ placed_by_id txn rest) (cond b (first ∷ rest) (txn ∷ (first ∷ rest))))
    by true b again = (k.0, again)
    by false true again = k
    by false false again = (h, k)

ascend_placed : (txn : Transaction) (txns : List Transaction) → IdsAscend txns → IdsAscend (placed_by_id txn txns)
ascend_placed txn [] d = (tt, tt)
ascend_placed txn (first ∷ rest) d = by (id_before first.id txn.id) refl (same_id first.id txn.id) refl (ascend_placed txn rest d.1)
  where
    by : (a : Bool) → id_before first.id txn.id ≡ a → (b : Bool) → same_id first.id txn.id ≡ b → IdsAscend (placed_by_id txn rest) →
        IdsAscend (cond a (first ∷ placed_by_id txn rest) (cond b (first ∷ rest) (txn ∷ (first ∷ rest))))
    by true e b k again = (each_placed (λ later. id_before first.id later.id ≡ true) txn rest e d.0, again)
    by false e true k again = d
    by false e false k again =
        let up = before_all first.id txn.id e k in
        ((up, Each-weaker (λ later. id_before first.id later.id ≡ true) (λ later. id_before txn.id later.id ≡ true) (λ later m. id_before-through txn.id first.id later.id up m) rest d.0), d)
      where
        before_all : (a b : TxnId) → id_before a b ≡ false → same_id a b ≡ false → id_before b a ≡ true
        before_all a b h s = other (id_before b a) refl
          where
            other : (t : Bool) → id_before b a ≡ t → t ≡ true
            other true q = refl
            other false q = let same = id-from_neither a b h q in absurd (cc (sym s ∙ subst (λ (x : TxnId). same_id a x ≡ true) same (same_id-itself a)))

pub ascend_ordered : (txns : List Transaction) → IdsAscend (in_id_order txns)
ascend_ordered [] = tt
ascend_ordered (txn ∷ txns) = ascend_placed txn (in_id_order txns) (ascend_ordered txns)

-- in such a list a number has one transaction
pub one_of_id : (txns : List Transaction) → IdsAscend txns → (t u : Transaction) → Among t txns → Among u txns → t.id ≡ u.id → t ≡ u
one_of_id [] d t u a b e = absurd a
one_of_id (x ∷ txns) d t u (inl p) (inl q) e = sym p ∙ q
one_of_id (x ∷ txns) d t u (inl p) (inr b) e =
    let low = Each-among (λ later. id_before x.id later.id ≡ true) u txns d.0 b in
    absurd (cc (sym (id_before-itself x.id) ∙ subst (λ (i : TxnId). id_before x.id i ≡ true) (sym e ∙ ap (λ (y : Transaction). y.id) (sym p)) low))
one_of_id (x ∷ txns) d t u (inr a) (inl q) e =
    let low = Each-among (λ later. id_before x.id later.id ≡ true) t txns d.0 a in
    absurd (cc (sym (id_before-itself x.id) ∙ subst (λ (i : TxnId). id_before x.id i ≡ true) (e ∙ ap (λ (y : Transaction). y.id) (sym q)) low))
one_of_id (x ∷ txns) d t u (inr a) (inr b) e = one_of_id txns d.1 t u a b e

-- what was put in order was there
placed_from : (t txn : Transaction) (txns : List Transaction) → Among t (placed_by_id txn txns) → (txn ≡ t) ⊎ Among t txns
placed_from t txn [] (inl e) = inl e
placed_from t txn [] (inr none) = absurd none
placed_from t txn (first ∷ rest) a = by (id_before first.id txn.id) (same_id first.id txn.id) (placed_from t txn rest) a
  where
    by : (p q : Bool) → (Among t (placed_by_id txn rest) → (txn ≡ t) ⊎ Among t rest) → Among t (cond p (first ∷ placed_by_id txn rest) (cond q (first ∷ rest) (txn ∷ (first ∷ rest)))) → (txn ≡ t) ⊎ Among t (first ∷ rest)
    by true q again (inl e) = inr (inl e)
    by true q again (inr b) = elim (again b) [ inl e ↦ inl e | inr c ↦ inr (inr c) ]
    by false true again b = inr b
    by false false again (inl e) = inl e
    by false false again (inr b) = inr b

pub ordered_from : (t : Transaction) (txns : List Transaction) → Among t (in_id_order txns) → Among t txns
ordered_from t [] a = absurd a
ordered_from t (txn ∷ txns) a = elim (placed_from t txn (in_id_order txns) a) [ inl e ↦ inl e | inr b ↦ inr (ordered_from t txns b) ]

-- placing a transaction leaves every number that there was, and its own
placed_there : (id : TxnId) (txn : Transaction) (txns : List Transaction) → ((same_id txn.id id ≡ true) ⊎ ((t : Transaction) × Among t txns × (same_id t.id id ≡ true))) →
    (t : Transaction) × Among t (placed_by_id txn txns) × (same_id t.id id ≡ true)
placed_there id txn [] (inl here) = (txn, inl refl, here)
placed_there id txn [] (inr there) = absurd there.1
placed_there id txn (first ∷ rest) h = by (placed_there id txn rest) (id_before first.id txn.id) (same_id first.id txn.id) refl h
  where
    by : ((same_id txn.id id ≡ true) ⊎ ((t : Transaction) × Among t rest × (same_id t.id id ≡ true)) → (t : Transaction) × Among t (placed_by_id txn rest) × (same_id t.id id ≡ true)) →
        (a b : Bool) → same_id first.id txn.id ≡ b → (same_id txn.id id ≡ true) ⊎ ((t : Transaction) × Among t (first ∷ rest) × (same_id t.id id ≡ true)) →
        (t : Transaction) × Among t (cond a (first ∷ placed_by_id txn rest) (cond b (first ∷ rest) (txn ∷ (first ∷ rest)))) × (same_id t.id id ≡ true)
    by again true b k (inl here) = let m = again (inl here) in (m.0, inr m.1, m.2)
    by again true b k (inr (t, inl same, e)) = (first, inl refl, subst (λ (x : Transaction). same_id x.id id ≡ true) (sym same) e)
    by again true b k (inr (t, inr a, e)) = let m = again (inr (t, a, e)) in (m.0, inr m.1, m.2)
    by again false true k (inl here) =
        (first, inl refl, subst (λ (x : TxnId). same_id x id ≡ true) (sym (same_id-tells first.id txn.id k)) here)
    by again false true k (inr there) = there
    by again false false k (inl here) = (txn, inl refl, here)
    by again false false k (inr (t, a, e)) = (t, inr a, e)

pub ordered_there : (id : TxnId) (t : Transaction) (txns : List Transaction) → Among t txns → same_id t.id id ≡ true → (u : Transaction) × Among u (in_id_order txns) × (same_id u.id id ≡ true)
ordered_there id t [] a e = absurd a
ordered_there id t (txn ∷ txns) (inl same) e = placed_there id txn (in_id_order txns) (inl (subst (λ (x : Transaction). same_id x.id id ≡ true) (sym same) e))
ordered_there id t (txn ∷ txns) (inr a) e = placed_there id txn (in_id_order txns) (inr (ordered_there id t txns a e))

-- in order of stamp there are the same
pub by_stamp_there : (t : Transaction) (txns : List Transaction) → Among t txns → Among t (in_stamp_order txns)
by_stamp_there t [] a = absurd a
by_stamp_there t (txn ∷ txns) (inl e) = placed-there t txn (in_stamp_order txns) (inl e)
by_stamp_there t (txn ∷ txns) (inr a) = placed-there t txn (in_stamp_order txns) (inr (by_stamp_there t txns a))

pub by_stamp_from : (t : Transaction) (txns : List Transaction) → Among t (in_stamp_order txns) → Among t txns
by_stamp_from t [] a = absurd a
by_stamp_from t (txn ∷ txns) a = elim (placed-from t txn (in_stamp_order txns) a) [ inl e ↦ inl e | inr b ↦ inr (by_stamp_from t txns b) ]

-- fates keep the order
each_fated : (x : Transaction) (fate : Transaction → Outcome) (txns : List Transaction) → Each (λ later. id_before x.id later.id ≡ true) txns →
    Each (λ (later : Fated). id_before x.id later.txn.id ≡ true) (map (λ txn. fated txn (fate txn)) txns)
each_fated x fate [] h = tt
each_fated x fate (t ∷ txns) h = (h.0, each_fated x fate txns h.1)

pub fated_in_order : (fate : Transaction → Outcome) (txns : List Transaction) → IdsAscend txns → IsInIdOrder (map (λ txn. fated txn (fate txn)) txns)
fated_in_order fate [] d = tt
fated_in_order fate (x ∷ txns) d = (each_fated x fate txns d.0, fated_in_order fate txns d.1)

-- an attempt with a fate in a list stands in it
pub fate_there : (id : TxnId) (list : List Fated) (o : Outcome) → fate_in id list ≡ Some o → (f : Fated) × Among f list × (same_id f.txn.id id ≡ true)
fate_there id [] o e = absurd (cc e)
fate_there id (f ∷ list) o e = by (fate_there id list o) (same_id f.txn.id id) refl e
  where
    by : (fate_in id list ≡ Some o → (g : Fated) × Among g list × (same_id g.txn.id id ≡ true)) → (b : Bool) → same_id f.txn.id id ≡ b →
        option_map (λ (g : Fated). g.outcome) (cond b (Some f) (find (λ g. same_id g.txn.id id) list)) ≡ Some o → (g : Fated) × Among g (f ∷ list) × (same_id g.txn.id id ≡ true)
    by again true k e = (f, inl refl, k)
    by again false k e = let m = again e in (m.0, inr m.1, m.2)

-- one that stands in it has a fate there
pub fate_of_member : (id : TxnId) (list : List Fated) (f : Fated) → Among f list → same_id f.txn.id id ≡ true → (o : Outcome) × (fate_in id list ≡ Some o)
fate_of_member id [] f a e = absurd a
fate_of_member id (x ∷ list) f a e = by (λ b. fate_of_member id list f b e) (same_id x.txn.id id) refl a
  where
    by : (Among f list → (o : Outcome) × (fate_in id list ≡ Some o)) → (b : Bool) → same_id x.txn.id id ≡ b → Among f (x ∷ list) →
        (o : Outcome) × (option_map (λ (g : Fated). g.outcome) (cond b (Some x) (find (λ g. same_id g.txn.id id) list)) ≡ Some o)
    by again true k a = (x.outcome, refl)
    by again false k (inl same) = absurd (cc (sym k ∙ subst (λ (y : Fated). same_id y.txn.id id ≡ true) (sym same) e))
    by again false k (inr b) = again b

-- the fate in a list that gives each number its fate
pub fate_given : (id : TxnId) (fate : Transaction → Outcome) (o : Outcome) → ((t : Transaction) → same_id t.id id ≡ true → fate t ≡ o) → (txns : List Transaction) →
    (t : Transaction) → Among t txns → same_id t.id id ≡ true → fate_in id (map (λ txn. fated txn (fate txn)) txns) ≡ Some o
fate_given id fate o h [] t a e = absurd a
fate_given id fate o h (x ∷ txns) t a e = by (λ b. fate_given id fate o h txns t b e) (same_id x.id id) refl a
  where
    by : (Among t txns → fate_in id (map (λ txn. fated txn (fate txn)) txns) ≡ Some o) → (b : Bool) → same_id x.id id ≡ b → Among t (x ∷ txns) →
        option_map (λ (g : Fated). g.outcome) (cond b (Some (fated x (fate x))) (find (λ g. same_id g.txn.id id) (map (λ txn. fated txn (fate txn)) txns))) ≡ Some o
    by again true k a = ap Some (h x k)
    by again false k (inl same) = absurd (cc (sym k ∙ subst (λ (y : Transaction). same_id y.id id ≡ true) (sym same) e))
    by again false k (inr b) = again b
