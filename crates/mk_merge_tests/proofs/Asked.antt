-- The promises of the worked cases meet the conditions of a merge.
use Rattle.std.proofs.Common.{◌≡◌, ◌⊎◌, ◌&&◌, true, false, not, refl, sym, ap, ◌∙◌, inl, inr, List, [], ◌∷◌, arith}
use Rattle.std.specs.Prelude.{flat_map}
use Rattle.std.specs.List.{list_all}
use Rattle.std.proofs.lemmas.Bool.Decides.{nat_tests}
use Rattle.mk_lists.specs.Among.{Among, Each, Each-among}
use Rattle.mk_txn.specs.declared.Stamp.{Stamp}
use Rattle.mk_txn.specs.declared.TxnId.{TxnId}
use Rattle.mk_txn.specs.declared.ReadItem.{ReadItem}
use Rattle.mk_txn.specs.declared.WriteItem.{WriteItem}
use Rattle.mk_txn.specs.Stamps.{is_before, zero_stamp}
use Rattle.mk_txn.specs.MarkMaps.{covers}
use Rattle.mk_txn.specs.Transactions.{Transaction, AreCoherent}
use Rattle.mk_words.specs.declared.Entry.{Entry}
use Rattle.mk_words.specs.Bases.{empty_base}
use Rattle.mk_words.specs.Rebuilding.{fits_base}
use Rattle.mk_words.specs.Promises.{PromiseState, ArePromises, EntryFits, promised_txns}
use Rattle.mk_merge_tests.specs.Rows.{reader, writer, conflicting, early, late, finished, hinted, silent, unhinted}

not_before_zero : (a : Stamp) → not (is_before a zero_stamp) ≡ true
not_before_zero a = grind (arith, nat_tests)

reads-fit : (items : List ReadItem) → list_all (λ item. not (is_before item.version zero_stamp)) items ≡ true
reads-fit [] = refl
reads-fit (item ∷ items) = (λ i. not_before_zero item.version i && list_all (λ other. not (is_before other.version zero_stamp)) items) ∙ reads-fit items

writes-fit : (stamp : Stamp) (items : List WriteItem) → list_all (λ item. not (is_before stamp zero_stamp)) items ≡ true
writes-fit stamp [] = refl
writes-fit stamp (item ∷ items) = (λ i. not_before_zero stamp i && list_all (λ other. not (is_before stamp zero_stamp)) items) ∙ writes-fit stamp items

-- every transaction fits the base of epoch 0
pub fits-empty : (txn : Transaction) → fits_base empty_base txn ≡ true
fits-empty txn = (λ i. reads-fit txn.reads i && writes-fit txn.stamp txn.writes i)

-- transactions that are each one of two
two-coherent : (a b : Transaction) (all : List Transaction) → (a.id ≡ b.id → ⊥) → (a.stamp ≡ b.stamp → ⊥) → Each (λ t. (t ≡ a) ⊎ (t ≡ b)) all → AreCoherent all
two-coherent a b all ids stamps h = record {
  one_of_a_number = λ x y p q e. number x y (Each-among (λ t. (t ≡ a) ⊎ (t ≡ b)) x all h p) (Each-among (λ t. (t ≡ a) ⊎ (t ≡ b)) y all h q) e;
  one_of_a_stamp = λ x y p q e. stamp x y (Each-among (λ t. (t ≡ a) ⊎ (t ≡ b)) x all h p) (Each-among (λ t. (t ≡ a) ⊎ (t ≡ b)) y all h q) e;
}
  where
    number : (x y : Transaction) → (x ≡ a) ⊎ (x ≡ b) → (y ≡ a) ⊎ (y ≡ b) → x.id ≡ y.id → x ≡ y
    number x y (inl p) (inl q) e = p ∙ sym q
    number x y (inr p) (inr q) e = p ∙ sym q
    number x y (inl p) (inr q) e = absurd (ids (sym (ap (λ (t : Transaction). t.id) p) ∙ e ∙ ap (λ (t : Transaction). t.id) q))
    number x y (inr p) (inl q) e = absurd (ids (sym (ap (λ (t : Transaction). t.id) q) ∙ sym e ∙ ap (λ (t : Transaction). t.id) p))

    stamp : (x y : Transaction) → (x ≡ a) ⊎ (x ≡ b) → (y ≡ a) ⊎ (y ≡ b) → x.stamp ≡ y.stamp → x.id ≡ y.id
    stamp x y (inl p) (inl q) e = ap (λ (t : Transaction). t.id) (p ∙ sym q)
    stamp x y (inr p) (inr q) e = ap (λ (t : Transaction). t.id) (p ∙ sym q)
    stamp x y (inl p) (inr q) e = absurd (stamps (sym (ap (λ (t : Transaction). t.stamp) p) ∙ e ∙ ap (λ (t : Transaction). t.stamp) q))
    stamp x y (inr p) (inl q) e = absurd (stamps (sym (ap (λ (t : Transaction). t.stamp) q) ∙ sym e ∙ ap (λ (t : Transaction). t.stamp) p))

-- what is not covered fits the base of epoch 0
fits : (entry : Entry) → covers [] entry.txn.id ≡ false → EntryFits empty_base entry
fits entry uncovered = record { voted = λ e. fits-empty entry.txn; uncovered = uncovered }

one-base : (ps : List PromiseState) → Each (λ (s : PromiseState). s.base ≡ empty_base) ps → (p q : PromiseState) → Among p ps → Among q ps → p.adopted ≡ q.adopted → p.base ≡ q.base
one-base ps h p q a b e = Each-among (λ (s : PromiseState). s.base ≡ empty_base) p ps h a ∙ sym (Each-among (λ (s : PromiseState). s.base ≡ empty_base) q ps h b)

pub conflicting-asked : ArePromises conflicting
conflicting-asked = record {
  distinct_replicas = ((λ a. elim a [ inl e ↦ absurd (omega (arith, e)) | inr b ↦ elim b [ inl e ↦ absurd (omega (arith, e)) | inr n ↦ n ] ]), ((λ a. elim a [ inl e ↦ absurd (omega (arith, e)) | inr n ↦ n ]), ((λ a. a), tt)));
  distinct_ids = (((λ a. a), tt), (((λ a. a), tt), (((λ a. a), tt), tt)));
  one_base = one-base conflicting (refl, (refl, (refl, tt)));
  coherent = two-coherent reader writer (flat_map promised_txns conflicting)
      (λ e. let k : reader.id.client ≡ writer.id.client = ap (λ (i : TxnId). i.client) e in omega (arith, k))
      (λ e. let k : reader.stamp.time ≡ writer.stamp.time = ap (λ (s : Stamp). s.time) e in omega (arith, k))
      (inl refl, (inl refl, (inr refl, tt)));
  entries_fit = ((fits _ refl, tt), ((fits _ refl, tt), ((fits _ refl, tt), tt)));
}

pub finished-asked : ArePromises finished
finished-asked = record {
  distinct_replicas = ((λ a. elim a [ inl e ↦ absurd (omega (arith, e)) | inr n ↦ n ]), ((λ a. a), tt));
  distinct_ids = (((λ a. elim a [ inl e ↦ absurd (client e) | inr n ↦ n ]), ((λ a. a), tt)), (tt, tt));
  one_base = one-base finished (refl, (refl, tt));
  coherent = two-coherent early late (flat_map promised_txns finished)
      (λ e. let k : early.id.client ≡ late.id.client = ap (λ (i : TxnId). i.client) e in omega (arith, k))
      (λ e. let k : early.stamp.time ≡ late.stamp.time = ap (λ (s : Stamp). s.time) e in omega (arith, k))
      (inl refl, (inr refl, tt));
  entries_fit = ((fits _ refl, (fits _ refl, tt)), (tt, tt));
}
  where
    client : late.id ≡ early.id → ⊥
    client e = let k : late.id.client ≡ early.id.client = ap (λ (i : TxnId). i.client) e in omega (arith, k)

-- one transaction, reported repeatedly
one-coherent : (all : List Transaction) → Each (λ (t : Transaction). t ≡ early) all → AreCoherent all
one-coherent all h = record {
  one_of_a_number = λ x y p q e. Each-among (λ (t : Transaction). t ≡ early) x all h p ∙ sym (Each-among (λ (t : Transaction). t ≡ early) y all h q);
  one_of_a_stamp = λ x y p q e. ap (λ (t : Transaction). t.id) (Each-among (λ (t : Transaction). t ≡ early) x all h p ∙ sym (Each-among (λ (t : Transaction). t ≡ early) y all h q));
}

pub hinted-asked : ArePromises hinted
hinted-asked = record {
  distinct_replicas = ((λ a. elim a [ inl e ↦ absurd (omega (arith, e)) | inr b ↦ elim b [ inl e ↦ absurd (omega (arith, e)) | inr n ↦ n ] ]), ((λ a. elim a [ inl e ↦ absurd (omega (arith, e)) | inr n ↦ n ]), ((λ a. a), tt)));
  distinct_ids = (((λ a. a), tt), (((λ a. a), tt), (((λ a. a), tt), tt)));
  one_base = one-base hinted (refl, (refl, (refl, tt)));
  coherent = one-coherent (flat_map promised_txns hinted) (refl, (refl, (refl, tt)));
  entries_fit = ((fits _ refl, tt), ((fits _ refl, tt), ((fits _ refl, tt), tt)));
}

pub silent-asked : ArePromises silent
silent-asked = record {
  distinct_replicas = ((λ a. elim a [ inl e ↦ absurd (omega (arith, e)) | inr n ↦ n ]), ((λ a. a), tt));
  distinct_ids = (tt, (tt, tt));
  one_base = one-base silent (refl, (refl, tt));
  coherent = one-coherent (flat_map promised_txns silent) tt;
  entries_fit = (tt, (tt, tt));
}

pub unhinted-asked : ArePromises unhinted
unhinted-asked = record {
  distinct_replicas = ((λ a. elim a [ inl e ↦ absurd (omega (arith, e)) | inr n ↦ n ]), ((λ a. a), tt));
  distinct_ids = (tt, (((λ a. a), tt), tt));
  one_base = one-base unhinted (refl, (refl, tt));
  coherent = one-coherent (flat_map promised_txns unhinted) (refl, tt);
  entries_fit = (tt, ((fits _ refl, tt), tt));
}
