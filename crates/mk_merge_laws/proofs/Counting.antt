-- What the promises that count give is a base, and its candidates have distinct stamps.
use Rattle.std.proofs.Common.{◌≡◌, ℕ, inl, inr, Bool, true, false, not, refl, sym, subst, ◌∙◌, List, [], ◌∷◌, ◌++◌, map, filter, take, ◌==◌, arith, if◌then◌else◌}
use Rattle.std.specs.Prelude.{flat_map}
use Rattle.std.proofs.lemmas.Bool.Decides.{nat_tests}
use Rattle.std.proofs.lemmas.Bool.{false≢true}
use Rattle.mk_lists.specs.Among.{Among, Each, AllDistinct, Among-append, Among-append_left, Among-append_right, Each-among}
use Rattle.mk_txn.specs.declared.Stamp.{Stamp}
use Rattle.mk_txn.specs.Transactions.{Transaction, AreCoherent, id_before}
use Rattle.mk_txn.proofs.IdOrder.{id_before-itself}
use Rattle.mk_words.specs.declared.Entry.{Entry}
use Rattle.mk_words.specs.declared.Fated.{Fated}
use Rattle.mk_words.specs.Promises.{PromiseState, ArePromises, EntryFits, base_of, chosen, counting, highest_adopted, is_leaders, promised_txns}
use Rattle.mk_merge_laws.specs.Adding.{AreCounted}
use Rattle.mk_merge_laws.proofs.Orders.{IdsAscend}
use Rattle.mk_lists.proofs.EachMember.{Each-filter}
use Rattle.mk_lists.proofs.Members.{Among-from_filter, Among-from_take}

pub ascend_filter : (p : Transaction → Bool) (txns : List Transaction) → IdsAscend txns → IdsAscend (filter p txns)
ascend_filter p [] h = tt
ascend_filter p (txn ∷ txns) h = by_test (ascend_filter p txns h.1) (p txn)
  where
    by_test : IdsAscend (filter p txns) → (b : Bool) → IdsAscend (if b then txn ∷ filter p txns else filter p txns)
    by_test more true = (Each-filter (λ later. id_before txn.id later.id ≡ true) p txns h.0, more)
    by_test more false = more

-- ---- distinct stamps

-- a stamp of some is that of one of them
record HasStamp (stamp : Stamp) (txns : List Transaction) : Type 0 where
  txn : Transaction
  among : Among txn txns
  is : txn.stamp ≡ stamp

has_stamp : (stamp : Stamp) (txns : List Transaction) → Among stamp (map (λ txn. txn.stamp) txns) → HasStamp stamp txns
has_stamp stamp [] a = absurd a
has_stamp stamp (txn ∷ txns) (inl e) = record { txn = txn; among = inl refl; is = e }
has_stamp stamp (txn ∷ txns) (inr a) = let more = has_stamp stamp txns a in record { txn = more.txn; among = inr more.among; is = more.is }

pub stamps-distinct : (all txns : List Transaction) → AreCoherent all → ((txn : Transaction) → Among txn txns → Among txn all) → IdsAscend txns → AllDistinct (map (λ txn. txn.stamp) txns)
stamps-distinct all [] coherent within h = tt
stamps-distinct all (txn ∷ txns) coherent within h = (fresh, stamps-distinct all txns coherent (λ t a. within t (inr a)) h.1)
  where
    fresh : Among txn.stamp (map (λ t. t.stamp) txns) → ⊥
    fresh a =
        let other = has_stamp txn.stamp txns a in
        let same : txn.id ≡ other.txn.id = coherent.one_of_a_stamp txn other.txn (within txn (inl refl)) (within other.txn (inr other.among)) (sym other.is) in
        let before : id_before txn.id other.txn.id ≡ true = Each-among (λ later. id_before txn.id later.id ≡ true) other.txn txns h.0 other.among in
        false≢true (sym (id_before-itself txn.id) ∙ subst (λ i. id_before txn.id i ≡ true) (sym same) before)

-- all that the promises that count report, some of it repeatedly
abbrev pub all_of : List PromiseState → List Transaction
all_of promises = map (λ f. f.txn) (base_of promises).list ++ flat_map (λ p. map (λ e. e.txn) p.entries) promises

-- ---- coherence

pub AreCoherent-within : (some all : List Transaction) → ((txn : Transaction) → Among txn some → Among txn all) → AreCoherent all → AreCoherent some
AreCoherent-within some all within h = record {
  one_of_a_number = λ a b x y e. h.one_of_a_number a b (within a x) (within b y) e;
  one_of_a_stamp = λ a b x y e. h.one_of_a_stamp a b (within a x) (within b y) e;
}

pub chosen-within : (f epoch : ℕ) (all : List PromiseState) (p : PromiseState) → Among p (counting (chosen f epoch all)) → Among p all
chosen-within f epoch all p a =
    let q = highest_adopted (chosen f epoch all) in
    elim (Among-append p (take 1 (filter (is_leaders f epoch) all)) (take f (filter (λ x. not (is_leaders f epoch x)) all)) ((Among-from_filter (λ x. x.adopted == q) p (chosen f epoch all) a).0)) [
      | inl b ↦ (Among-from_filter (is_leaders f epoch) p all (Among-from_take p 1 (filter (is_leaders f epoch) all) b)).0
      | inr b ↦ (Among-from_filter (λ x. not (is_leaders f epoch x)) p all (Among-from_take p f (filter (λ x. not (is_leaders f epoch x)) all) b)).0
    ]

-- what one of the promises gives is among all that they promised
promised-of : (p : PromiseState) (all : List PromiseState) (txn : Transaction) → Among p all → Among txn (promised_txns p) → Among txn (flat_map promised_txns all)
promised-of p [] txn a b = absurd a
promised-of p (q ∷ all) txn (inl e) b = Among-append_left txn (promised_txns q) (flat_map promised_txns all) (subst (λ r. Among txn (promised_txns r)) (sym e) b)
promised-of p (q ∷ all) txn (inr a) b = Among-append_right txn (promised_txns q) (flat_map promised_txns all) (promised-of p all txn a b)

entries-within : (some all : List PromiseState) (txn : Transaction) → ((p : PromiseState) → Among p some → Among p all) → Among txn (flat_map (λ p. map (λ e. e.txn) p.entries) some) → Among txn (flat_map promised_txns all)
entries-within [] all txn within a = absurd a
entries-within (p ∷ some) all txn within a = elim (Among-append txn (map (λ (e : Entry). e.txn) p.entries) (flat_map (λ q. map (λ (e : Entry). e.txn) q.entries) some) a) [
  | inl b ↦ promised-of p all txn (within p (inl refl)) (Among-append_right txn (map (λ f. f.txn) p.base.list) (map (λ e. e.txn) p.entries) b)
  | inr b ↦ entries-within some all txn (λ q c. within q (inr c)) b
]

base-within : (some all : List PromiseState) (txn : Transaction) → ((p : PromiseState) → Among p some → Among p all) → Among txn (map (λ f. f.txn) (base_of some).list) → Among txn (flat_map promised_txns all)
base-within [] all txn within a = absurd a
base-within (p ∷ some) all txn within a = promised-of p all txn (within p (inl refl)) (Among-append_left txn (map (λ f. f.txn) p.base.list) (map (λ e. e.txn) p.entries) a)

pub counting-coherent : (f epoch : ℕ) (all : List PromiseState) → AreCoherent (flat_map promised_txns all) → AreCoherent (all_of (counting (chosen f epoch all)))
counting-coherent f epoch all h =
    let some = counting (chosen f epoch all) in
    AreCoherent-within (all_of some) (flat_map promised_txns all) (λ txn a. elim (Among-append txn (map (λ (f : Fated). f.txn) (base_of some).list) (flat_map (λ p. map (λ (e : Entry). e.txn) p.entries) some) a) [
      | inl b ↦ base-within some all txn (chosen-within f epoch all) b
      | inr b ↦ entries-within some all txn (chosen-within f epoch all) b
    ]) h

-- ---- what is asked of those that count

-- the base of the first that counts is that of each
one_base-of : (ss : List PromiseState) (n : ℕ) → ((p q : PromiseState) → Among p ss → Among q ss → p.base ≡ q.base) → (p : PromiseState) → Among p ss → p.base ≡ base_of ss
one_base-of [] n h p a = absurd a
one_base-of (s ∷ ss) n h p a = h p s a (inl refl)

pub counting-asked : (f epoch : ℕ) (ss : List PromiseState) → ArePromises ss → AreCounted (counting (chosen f epoch ss))
counting-asked f epoch ss h = record {
  coherent = counting-coherent f epoch ss h.coherent;
  one_base = one_base-of (counting (chosen f epoch ss)) 0 (λ p q a b. h.one_base p q (chosen-within f epoch ss p a) (chosen-within f epoch ss q b) (adopts p a ∙ sym (adopts q b)));
  fit = λ p e a b. Each-among (EntryFits p.base) e p.entries (Each-among (λ (p : PromiseState). Each (EntryFits p.base) p.entries) p ss h.entries_fit (chosen-within f epoch ss p a)) b;
}
  where
    same : (a b : ℕ) → (a == b) ≡ true → a ≡ b
    same a b e = grind (arith, nat_tests)

    adopts : (p : PromiseState) → Among p (counting (chosen f epoch ss)) → p.adopted ≡ highest_adopted (chosen f epoch ss)
    adopts p a = same p.adopted (highest_adopted (chosen f epoch ss)) (Among-from_filter (λ (x : PromiseState). x.adopted == highest_adopted (chosen f epoch ss)) p (chosen f epoch ss) a).1
