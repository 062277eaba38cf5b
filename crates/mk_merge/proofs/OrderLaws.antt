-- Transactions gathered, and put in order of their numbers.
use Rattle.std.proofs.Common.{◌≡◌, ℕ, zero, suc, ◌<◌, ◌+◌, inl, inr, Bool, true, false, refl, sym, ap, subst, ◌∙◌, List, [], ◌∷◌, ◌++◌, length, get_or, map, filter, drop, append_assoc, arith, if◌then◌else◌, Ordering, Less, Equal, Greater}
use Rattle.std.proofs.lemmas.Bool.{false≢true}
use Rattle.std.proofs.lemmas.List.{drop_all}
use Rattle.std.proofs.lemmas.List.Elements.{filter-append}
use Rattle.std.specs.Ordering.{is_lt, is_eq, match_ordering}
use Rattle.std.specs.BTreeMap.{insert_entry}
use Rattle.std.specs.Borrow.{Bor}
use Rattle.mk_lists.specs.Among.{Among, Each}
use Rattle.mk_txn.specs.declared.TxnId.{TxnId}
use Rattle.mk_txn.specs.Transactions.{Transaction, AreCoherent, same_id, id_before, id_cmp}
use Rattle.mk_txn.proofs.IdOrder.{id_before-itself, id_before-not_back, same_id-tells, same_id-itself, id_cmp-less, id_cmp-equal, id-from_neither}
use Rattle.mk_words.specs.declared.Entry.{Entry}
use Rattle.mk_words.specs.Promises.{PromiseState}
use Rattle.mk_words.specs.Bases.{placed_by_id, in_id_order}
use Rattle.mk_merge_laws.specs.Adding.{entered_txns}
use Rattle.mk_merge_laws.proofs.Orders.{ordered_from}
use Rattle.mk_lists.proofs.Places.{drop_read}

-- ---- what is new, gathered

-- with the promises that are left it comes to what is new of all
pub entered-next : (p : Transaction → Bool) (ps : List PromiseState) (i : ℕ) (x : PromiseState) (entries : List Entry) (old new all : List Transaction) → i < length ps → x ≡ get_or ps i x → entries ≡ x.entries
    → new ≡ old ++ filter p (map (λ (e : Entry). e.txn) entries) → old ++ filter p (entered_txns (drop i ps)) ≡ all → new ++ filter p (entered_txns (drop (i + 1) ps)) ≡ all
entered-next p ps i x entries old new all within is same made h =
    ap (λ (ts : List Transaction). ts ++ filter p (entered_txns (drop (i + 1) ps))) (made ∙ ap (λ es. old ++ filter p (map (λ (e : Entry). e.txn) es)) same)
    ∙ append_assoc old (filter p (map (λ (e : Entry). e.txn) x.entries)) (filter p (entered_txns (drop (i + 1) ps)))
    ∙ ap (λ ts. old ++ ts) (sym (filter-append p (map (λ (e : Entry). e.txn) x.entries) (entered_txns (drop (i + 1) ps))))
    ∙ ap (λ left. old ++ filter p (entered_txns left)) (sym (drop_read ps i x within is))
    ∙ h

-- ---- by number

-- the transactions of the entries of a table
abbrev pub txns_in : List (TxnId × Bor Transaction) → List Transaction
txns_in entries = map (λ e. e.1.now) entries

-- each transaction stands at its number
abbrev pub AreKeyed : List (TxnId × Bor Transaction) → Type 0
AreKeyed entries = Each (λ e. e.0 ≡ e.1.now.id) entries

-- each transaction of this number is this one
abbrev pub IsOnly : Transaction → List Transaction → Type 0
IsOnly txn txns = (other : Transaction) → Among other txns → other.id ≡ txn.id → other ≡ txn

before_from_less : (a b : TxnId) → id_cmp a b ≡ Less → id_before a b ≡ true
before_from_less a b e = sym (id_cmp-less a b) ∙ ap is_lt e

not_same_from_less : (a b : TxnId) → id_cmp a b ≡ Less → same_id b a ≡ false
not_same_from_less a b e = by_test (same_id b a) refl
  where
    by_test : (t : Bool) → same_id b a ≡ t → same_id b a ≡ false
    by_test true same = absurd (false≢true (sym (id_before-itself a) ∙ subst (λ x. id_before a x ≡ true) (same_id-tells b a same) (before_from_less a b e)))
    by_test false same = same

before_from_greater : (a b : TxnId) → id_cmp a b ≡ Greater → id_before b a ≡ true
before_from_greater a b e = by_test (id_before b a) refl
  where
    not_less : id_before a b ≡ false
    not_less = sym (id_cmp-less a b) ∙ ap is_lt e

    not_equal : same_id a b ≡ false
    not_equal = sym (id_cmp-equal a b) ∙ ap is_eq e

    by_test : (t : Bool) → id_before b a ≡ t → id_before b a ≡ true
    by_test true h = h
    by_test false h = absurd (false≢true (sym not_equal ∙ subst (λ x. same_id a x ≡ true) (id-from_neither a b not_less h) (same_id-itself a)))

same_from_equal : (a b : TxnId) → id_cmp a b ≡ Equal → a ≡ b
same_from_equal a b e = same_id-tells a b (sym (id_cmp-equal a b) ∙ ap is_eq e)

txns_in-insert : (entries : List (TxnId × Bor Transaction)) (txn : Bor Transaction) → AreKeyed entries → IsOnly txn.now (txns_in entries) → txns_in (insert_entry id_cmp entries txn.now.id txn) ≡ placed_by_id txn.now (txns_in entries)
txns_in-insert [] txn keyed only = refl
txns_in-insert (first ∷ rest) txn keyed only = by_order (txns_in-insert rest txn keyed.1 (λ other a e. only other (inr a) e)) (id_cmp txn.now.id first.0) refl
  where
    by_order : txns_in (insert_entry id_cmp rest txn.now.id txn) ≡ placed_by_id txn.now (txns_in rest) → (o : Ordering) → id_cmp txn.now.id first.0 ≡ o
        → txns_in (match_ordering o ((txn.now.id, txn) ∷ first ∷ rest) ((first.0, txn) ∷ rest) (first ∷ insert_entry id_cmp rest txn.now.id txn))
        ≡ (if id_before first.1.now.id txn.now.id then first.1.now ∷ placed_by_id txn.now (txns_in rest) else if same_id first.1.now.id txn.now.id then first.1.now ∷ txns_in rest else txn.now ∷ (first.1.now ∷ txns_in rest))
    by_order more Less e =
        let here : id_cmp txn.now.id first.1.now.id ≡ Less = ap (id_cmp txn.now.id) (sym keyed.0) ∙ e in
        sym (ap (λ b. if b then first.1.now ∷ placed_by_id txn.now (txns_in rest) else if same_id first.1.now.id txn.now.id then first.1.now ∷ txns_in rest else txn.now ∷ (first.1.now ∷ txns_in rest)) (id_before-not_back txn.now.id first.1.now.id (before_from_less txn.now.id first.1.now.id here))
        ∙ ap (λ b. if b then first.1.now ∷ txns_in rest else txn.now ∷ (first.1.now ∷ txns_in rest)) (not_same_from_less txn.now.id first.1.now.id here))
    by_order more Equal e =
        let same : txn.now.id ≡ first.1.now.id = same_from_equal txn.now.id first.0 e ∙ keyed.0 in
        let one : first.1.now ≡ txn.now = only first.1.now (inl refl) (sym same) in
        let itself : id_before first.1.now.id txn.now.id ≡ false = ap (λ i. id_before i txn.now.id) (sym same) ∙ id_before-itself txn.now.id in
        let hit : same_id first.1.now.id txn.now.id ≡ true = ap (λ i. same_id i txn.now.id) (sym same) ∙ same_id-itself txn.now.id in
        ap (λ t. t ∷ txns_in rest) (sym one)
        ∙ sym (ap (λ b. if b then first.1.now ∷ placed_by_id txn.now (txns_in rest) else if same_id first.1.now.id txn.now.id then first.1.now ∷ txns_in rest else txn.now ∷ (first.1.now ∷ txns_in rest)) itself
        ∙ ap (λ b. if b then first.1.now ∷ txns_in rest else txn.now ∷ (first.1.now ∷ txns_in rest)) hit)
    by_order more Greater e =
        let here : id_cmp txn.now.id first.1.now.id ≡ Greater = ap (id_cmp txn.now.id) (sym keyed.0) ∙ e in
        ap (λ ys. first.1.now ∷ ys) more
        ∙ sym (ap (λ b. if b then first.1.now ∷ placed_by_id txn.now (txns_in rest) else if same_id first.1.now.id txn.now.id then first.1.now ∷ txns_in rest else txn.now ∷ (first.1.now ∷ txns_in rest)) (before_from_greater txn.now.id first.1.now.id here))

AreKeyed-insert : (entries : List (TxnId × Bor Transaction)) (txn : Bor Transaction) → AreKeyed entries → AreKeyed (insert_entry id_cmp entries txn.now.id txn)
AreKeyed-insert [] txn keyed = (refl, tt)
AreKeyed-insert (first ∷ rest) txn keyed = by_order (AreKeyed-insert rest txn keyed.1) (id_cmp txn.now.id first.0) refl
  where
    by_order : AreKeyed (insert_entry id_cmp rest txn.now.id txn) → (o : Ordering) → id_cmp txn.now.id first.0 ≡ o → AreKeyed (match_ordering o ((txn.now.id, txn) ∷ first ∷ rest) ((first.0, txn) ∷ rest) (first ∷ insert_entry id_cmp rest txn.now.id txn))
    by_order more Less e = (refl, keyed)
    by_order more Equal e = (sym (same_from_equal txn.now.id first.0 e), keyed.1)
    by_order more Greater e = (keyed.0, more)

Among-drop : (other : Transaction) (i : ℕ) (txns : List Transaction) → Among other (drop i txns) → Among other txns
Among-drop other zero txns a = a
Among-drop other (suc i) [] a = a
Among-drop other (suc i) (txn ∷ txns) a = inr (Among-drop other i txns a)

Among-at : (i : ℕ) (txns : List Transaction) (d : Transaction) → i < length txns → Among (get_or txns i d) txns
Among-at i [] d within = absurd (omega (arith, within))
Among-at zero (txn ∷ txns) d within = inl refl
Among-at (suc i) (txn ∷ txns) d within = inr (Among-at i txns d (omega (arith, within)))

-- those from a place on stand in the table
pub record AreOrdered (all : List Transaction) (left : ℕ) (entries : List (TxnId × Bor Transaction)) : Type 0 where
  pub keyed : AreKeyed entries
  pub ordered : txns_in entries ≡ in_id_order (drop left all)

pub ordered-next : (all : List Transaction) (left before : ℕ) (txn : Bor Transaction) (id : TxnId) (old new : List (TxnId × Bor Transaction)) → AreCoherent all → left ≡ before + 1 → before < length all → txn.now ≡ get_or all before txn.now → id ≡ txn.now.id
    → new ≡ insert_entry id_cmp old id txn → AreOrdered all left old → AreOrdered all before new
ordered-next all left before txn id old new coherent is within at key made h = record {
  keyed = subst AreKeyed (sym inserted) (AreKeyed-insert old txn h.keyed);
  ordered = ap txns_in inserted ∙ txns_in-insert old txn h.keyed only ∙ ap (placed_by_id txn.now) here ∙ sym (ap in_id_order (drop_read all before txn.now within at));
} where
  inserted : new ≡ insert_entry id_cmp old txn.now.id txn
  inserted = made ∙ ap (λ k. insert_entry id_cmp old k txn) key

  here : txns_in old ≡ in_id_order (drop (before + 1) all)
  here = h.ordered ∙ ap (λ k. in_id_order (drop k all)) is

  only : IsOnly txn.now (txns_in old)
  only other a same =
      coherent.one_of_a_number other txn.now (Among-drop other left all (ordered_from other (drop left all) (subst (Among other) h.ordered a))) (subst (λ t. Among t all) (sym at) (Among-at before all txn.now within)) same

-- what is borrowed at a place
pub now-at : (txns : List (Bor Transaction)) (i : ℕ) (b : Bor Transaction) → i < length txns → b ≡ get_or txns i b → (b.now ≡ get_or (map (λ t. t.now) txns) i b.now) × (i < length (map (λ (t : Bor Transaction). t.now) txns))
now-at [] i b within is = absurd (omega (arith, within))
now-at (t ∷ txns) zero b within is = (ap (λ (x : Bor Transaction). x.now) is, omega arith)
now-at (t ∷ txns) (suc i) b within is = let r = now-at txns i b (omega (arith, within)) is in let lt = r.1 in (r.0, omega (arith, lt))
