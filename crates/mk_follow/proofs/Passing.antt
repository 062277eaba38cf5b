-- What the rows show as the stamp rises past one commit after the other, and as a commit comes.
use Rattle.std.proofs.Common.{◌≡◌, ◌≢◌, ℕ, ◌+◌, Bool, true, false, cond, not, refl, sym, ap, subst, ◌∙◌, inl, inr, arith, List, [], ◌∷◌, ◌++◌, map, filter, count_by}
use Rattle.std.proofs.lemmas.Bool.{false≢true}
use Rattle.std.proofs.lemmas.List.{map-append, append-nil}
use Rattle.std.proofs.lemmas.List.Elements.{filter-append}
use Rattle.mk_lists.specs.Among.{Among, AllDistinct}
use Rattle.mk_lists.proofs.Distinct.{AllDistinct-push}
use Rattle.mk_lists.proofs.Members.{Among-map}
use Rattle.mk_txn.specs.declared.Stamp.{Stamp}
use Rattle.mk_txn.specs.Stamps.{is_before}
use Rattle.mk_txn.specs.Transactions.{Transaction}
use Rattle.mk_txn.specs.LatestWrites.{VersionedValue, first_version, latest_write}
use Rattle.mk_txn.proofs.StampOrder.{is_before-itself, is_before-not_back, is_before-down, not_before-through}
use Rattle.mk_words.specs.Bases.{placed_by_stamp, in_stamp_order}
use Rattle.mk_words.proofs.StampOrdering.{after_first}
use Rattle.mk_model.specs.OneCopy.{version_in, replayed, HaveDistinctStamps, stamps_of}
use Rattle.mk_copy_laws.specs.LatestLaws.{CopyHoldsLatest}
use Rattle.mk_feed_words.specs.declared.Received.{Received}
use Rattle.mk_feed_words.specs.Feed.{is_upto, txns_upto}
use Rattle.mk_follow.specs.Orders.{IsNext}
use Rattle.mk_follow.specs.Rows.{after_txn}
use Rattle.mk_follow.proofs.Counting.{count-cons, none-more}

abbrev pub txn_of : Received → Transaction
txn_of r = r.txn

-- ---- the order of stamps, whatever order the transactions come in

placed-swap : (x y : Transaction) (zs : List Transaction) → x.stamp ≢ y.stamp → placed_by_stamp x (placed_by_stamp y zs) ≡ placed_by_stamp y (placed_by_stamp x zs)
placed-swap x y [] apart = by (is_before y.stamp x.stamp) (is_before x.stamp y.stamp) refl refl
  where
    by : (b c : Bool) → is_before y.stamp x.stamp ≡ b → is_before x.stamp y.stamp ≡ c → cond b (y ∷ x ∷ []) (x ∷ y ∷ []) ≡ cond c (x ∷ y ∷ []) (y ∷ x ∷ [])
    by true false e f = refl
    by false true e f = refl
    by true true e f = absurd (false≢true (sym (is_before-not_back y.stamp x.stamp e) ∙ f))
    by false false e f = absurd (false≢true (sym e ∙ after_first x.stamp y.stamp apart f))
placed-swap x y (z ∷ zs) apart = by (placed-swap x y zs apart) (is_before z.stamp x.stamp) (is_before z.stamp y.stamp) refl refl
  where
    -- the two in front of others
    front : (b c : Bool) → is_before y.stamp x.stamp ≡ b → is_before x.stamp y.stamp ≡ c → cond b (y ∷ x ∷ (z ∷ zs)) (x ∷ y ∷ (z ∷ zs)) ≡ cond c (x ∷ y ∷ (z ∷ zs)) (y ∷ x ∷ (z ∷ zs))
    front true false e f = refl
    front false true e f = refl
    front true true e f = absurd (false≢true (sym (is_before-not_back y.stamp x.stamp e) ∙ f))
    front false false e f = absurd (false≢true (sym e ∙ after_first x.stamp y.stamp apart f))

    pick : {A : Type 0} (b c : Bool) (u v : A) → b ≡ c → cond b u v ≡ cond c u v
    pick b c u v e = ap (λ d. cond d u v) e

    by : placed_by_stamp x (placed_by_stamp y zs) ≡ placed_by_stamp y (placed_by_stamp x zs) → (a b : Bool) → is_before z.stamp x.stamp ≡ a → is_before z.stamp y.stamp ≡ b
        → placed_by_stamp x (cond b (z ∷ placed_by_stamp y zs) (y ∷ (z ∷ zs))) ≡ placed_by_stamp y (cond a (z ∷ placed_by_stamp x zs) (x ∷ (z ∷ zs)))
    by again true true e f =
        pick (is_before z.stamp x.stamp) true (z ∷ placed_by_stamp x (placed_by_stamp y zs)) (x ∷ (z ∷ placed_by_stamp y zs)) e
        ∙ ap (λ l. z ∷ l) again
        ∙ sym (pick (is_before z.stamp y.stamp) true (z ∷ placed_by_stamp y (placed_by_stamp x zs)) (y ∷ (z ∷ placed_by_stamp x zs)) f)
    by again true false e f =
        let first : is_before y.stamp x.stamp ≡ true = is_before-down y.stamp z.stamp x.stamp f e in
        pick (is_before y.stamp x.stamp) true (y ∷ placed_by_stamp x (z ∷ zs)) (x ∷ (y ∷ (z ∷ zs))) first
        ∙ ap (λ l. y ∷ l) (pick (is_before z.stamp x.stamp) true (z ∷ placed_by_stamp x zs) (x ∷ (z ∷ zs)) e)
        ∙ sym (pick (is_before z.stamp y.stamp) false (z ∷ placed_by_stamp y (placed_by_stamp x zs)) (y ∷ (z ∷ placed_by_stamp x zs)) f)
    by again false true e f =
        let first : is_before x.stamp y.stamp ≡ true = is_before-down x.stamp z.stamp y.stamp e f in
        pick (is_before z.stamp x.stamp) false (z ∷ placed_by_stamp x (placed_by_stamp y zs)) (x ∷ (z ∷ placed_by_stamp y zs)) e
        ∙ sym (ap (λ l. x ∷ l) (pick (is_before z.stamp y.stamp) true (z ∷ placed_by_stamp y zs) (y ∷ (z ∷ zs)) f))
        ∙ sym (pick (is_before x.stamp y.stamp) true (x ∷ placed_by_stamp y (z ∷ zs)) (y ∷ (x ∷ (z ∷ zs))) first)
    by again false false e f =
        ap (λ l. cond (is_before y.stamp x.stamp) (y ∷ l) (x ∷ (y ∷ (z ∷ zs)))) (pick (is_before z.stamp x.stamp) false (z ∷ placed_by_stamp x zs) (x ∷ (z ∷ zs)) e)
        ∙ front (is_before y.stamp x.stamp) (is_before x.stamp y.stamp) refl refl
        ∙ sym (ap (λ l. cond (is_before x.stamp y.stamp) (x ∷ l) (y ∷ (x ∷ (z ∷ zs)))) (pick (is_before z.stamp y.stamp) false (z ∷ placed_by_stamp y zs) (y ∷ (z ∷ zs)) f))

-- one that comes last may come first
ordered-push : (txns : List Transaction) (txn : Transaction) → ¬ (Among txn.stamp (stamps_of txns)) → in_stamp_order (txns ++ txn ∷ []) ≡ placed_by_stamp txn (in_stamp_order txns)
ordered-push [] txn new = refl
ordered-push (t ∷ ts) txn new =
    ap (placed_by_stamp t) (ordered-push ts txn (λ a. new (inr a))) ∙ placed-swap t txn (in_stamp_order ts) (λ e. new (inl e))

-- ---- one commit more passes

-- the second test passes what the first one does, and this commit
pub record OneMore (p q : Received → Bool) (commits : List Received) (r : Received) : Type 0 where
  pub before : p r ≡ false
  pub after : q r ≡ true
  pub same : (x : Received) → Among x commits → x.txn.stamp ≢ r.txn.stamp → p x ≡ q x

pub same-filter : (p q : Received → Bool) (commits : List Received) → ((x : Received) → Among x commits → p x ≡ q x) → filter p commits ≡ filter q commits
same-filter p q [] h = refl
same-filter p q (x ∷ xs) h = λ i. cond (h x (inl refl) i) (x ∷ same-filter p q xs (λ y a. h y (inr a)) i) (same-filter p q xs (λ y a. h y (inr a)) i)

same-count : (p q : Received → Bool) (commits : List Received) → ((x : Received) → Among x commits → p x ≡ q x) → count_by p commits ≡ count_by q commits
same-count p q [] h = refl
same-count p q (x ∷ xs) h = count-cons p x xs ∙ (λ i. cond (h x (inl refl) i) 1 0 + same-count p q xs (λ y a. h y (inr a)) i) ∙ sym (count-cons q x xs)

-- no later commit has the stamp of the first
others : (x r : Received) (xs : List Received) → ¬ (Among x.txn.stamp (stamps_of (map txn_of xs))) → x ≡ r → (y : Received) → Among y xs → y.txn.stamp ≢ r.txn.stamp
others x r xs new is y a e =
    new (subst (λ s. Among s (stamps_of (map txn_of xs))) (e ∙ ap (λ (z : Received). z.txn.stamp) (sym is))
    (Among-map (λ (t : Transaction). t.stamp) y.txn (map txn_of xs) (Among-map txn_of y xs a)))

differs : (x r : Received) (xs : List Received) → ¬ (Among x.txn.stamp (stamps_of (map txn_of xs))) → Among r xs → x.txn.stamp ≢ r.txn.stamp
differs x r xs new a e =
    new (subst (λ s. Among s (stamps_of (map txn_of xs))) (sym e) (Among-map (λ (t : Transaction). t.stamp) r.txn (map txn_of xs) (Among-map txn_of r xs a)))

filtered-stamps : (p : Received → Bool) (stamp : Stamp) (xs : List Received) → Among stamp (stamps_of (map txn_of (filter p xs))) → Among stamp (stamps_of (map txn_of xs))
filtered-stamps p stamp [] a = a
filtered-stamps p stamp (x ∷ xs) a = by (filtered-stamps p stamp xs) (p x) a
  where
    by : (Among stamp (stamps_of (map txn_of (filter p xs))) → Among stamp (stamps_of (map txn_of xs))) → (b : Bool) → Among stamp (stamps_of (map txn_of (cond b (x ∷ filter p xs) (filter p xs)))) → Among stamp (stamps_of (map txn_of (x ∷ xs)))
    by again true (inl e) = inl e
    by again true (inr a) = inr (again a)
    by again false a = inr (again a)

pub filtered-distinct : (p : Received → Bool) (commits : List Received) → HaveDistinctStamps (map txn_of commits) → HaveDistinctStamps (map txn_of (filter p commits))
filtered-distinct p [] h = tt
filtered-distinct p (x ∷ xs) h = by (filtered-distinct p xs h.1) (p x)
  where
    by : HaveDistinctStamps (map txn_of (filter p xs)) → (b : Bool) → HaveDistinctStamps (map txn_of (cond b (x ∷ filter p xs) (filter p xs)))
    by again true = ((λ a. h.0 (filtered-stamps p x.txn.stamp xs a)), again)
    by again false = again

-- the commit is not among those that the first test passes
not-passed : (p : Received → Bool) (commits : List Received) (r : Received) → HaveDistinctStamps (map txn_of commits) → Among r commits → p r ≡ false → ¬ (Among r.txn.stamp (stamps_of (map txn_of (filter p commits))))
not-passed p [] r distinct a fails there = a
not-passed p (x ∷ xs) r distinct (inl is) fails there =
    distinct.0 (filtered-stamps p x.txn.stamp xs (subst (λ (y : Received). Among y.txn.stamp (stamps_of (map txn_of (filter p xs)))) (sym is)
    (subst (λ b. Among r.txn.stamp (stamps_of (map txn_of (cond b (x ∷ filter p xs) (filter p xs))))) (ap p is ∙ fails) there)))
not-passed p (x ∷ xs) r distinct (inr a) fails there = by (not-passed p xs r distinct.1 a fails) (p x) there
  where
    by : ¬ (Among r.txn.stamp (stamps_of (map txn_of (filter p xs)))) → (b : Bool) → Among r.txn.stamp (stamps_of (map txn_of (cond b (x ∷ filter p xs) (filter p xs)))) → ⊥
    by again true (inl e) = differs x r xs distinct.0 a e
    by again true (inr b) = again b
    by again false b = again b

-- the same order with the commit at the end
ordered-more : (p q : Received → Bool) (commits : List Received) (r : Received) → HaveDistinctStamps (map txn_of commits) → Among r commits → OneMore p q commits r
    → in_stamp_order (map txn_of (filter q commits)) ≡ placed_by_stamp r.txn (in_stamp_order (map txn_of (filter p commits)))
ordered-more p q [] r distinct a h = absurd a
ordered-more p q (x ∷ xs) r distinct (inl is) h =
    let rest : filter p xs ≡ filter q xs = same-filter p q xs (λ y a. h.same y (inr a) (others x r xs distinct.0 is y a)) in
    ap (λ b. in_stamp_order (map txn_of (cond b (x ∷ filter q xs) (filter q xs)))) (ap q is ∙ h.after)
    ∙ ap (λ ys. placed_by_stamp x.txn (in_stamp_order (map txn_of ys))) (sym rest)
    ∙ ap (λ (y : Received). placed_by_stamp y.txn (in_stamp_order (map txn_of (filter p xs)))) is
    ∙ sym (ap (λ b. placed_by_stamp r.txn (in_stamp_order (map txn_of (cond b (x ∷ filter p xs) (filter p xs))))) (ap p is ∙ h.before))
ordered-more p q (x ∷ xs) r distinct (inr a) h =
    ap (λ b. in_stamp_order (map txn_of (cond b (x ∷ filter q xs) (filter q xs)))) (sym (h.same x (inl refl) apart))
    ∙ by (ordered-more p q xs r distinct.1 a (record { before = h.before; after = h.after; same = λ y b. h.same y (inr b) })) (p x)
  where
    apart : x.txn.stamp ≢ r.txn.stamp
    apart = differs x r xs distinct.0 a

    by : in_stamp_order (map txn_of (filter q xs)) ≡ placed_by_stamp r.txn (in_stamp_order (map txn_of (filter p xs))) → (b : Bool)
        → in_stamp_order (map txn_of (cond b (x ∷ filter q xs) (filter q xs))) ≡ placed_by_stamp r.txn (in_stamp_order (map txn_of (cond b (x ∷ filter p xs) (filter p xs))))
    by again true = ap (placed_by_stamp x.txn) again ∙ placed-swap x.txn r.txn (in_stamp_order (map txn_of (filter p xs))) apart
    by again false = again

latest-push : (key : ℕ) (latest : VersionedValue) (txns : List Transaction) (txn : Transaction) → latest_write key latest (txns ++ txn ∷ []) ≡ after_txn key txn (latest_write key latest txns)
latest-push key latest [] txn = refl
latest-push key latest (t ∷ ts) txn = latest-push key (after_txn key t latest) ts txn

pub latest-one_more : CopyHoldsLatest → (key : ℕ) (p q : Received → Bool) (commits : List Received) (r : Received) → HaveDistinctStamps (map txn_of commits) → Among r commits → OneMore p q commits r
    → latest_write key first_version (map txn_of (filter q commits)) ≡ after_txn key r.txn (latest_write key first_version (map txn_of (filter p commits)))
latest-one_more holds key p q commits r distinct a h =
    let few : List Transaction = map txn_of (filter p commits) in
    let many : List Transaction = map txn_of (filter q commits) in
    let new = not-passed p commits r distinct a h.before in
    let stamps : stamps_of (few ++ r.txn ∷ []) ≡ stamps_of few ++ r.txn.stamp ∷ [] = map-append (λ (t : Transaction). t.stamp) few (r.txn ∷ []) in
    let apart : HaveDistinctStamps (few ++ r.txn ∷ []) = subst AllDistinct (sym stamps) (AllDistinct-push (stamps_of few) r.txn.stamp (filtered-distinct p commits distinct) new) in
    sym (holds many key (filtered-distinct q commits distinct))
    ∙ ap (λ l. version_in (replayed [] l) key) (ordered-more p q commits r distinct a h ∙ sym (ordered-push few r.txn new))
    ∙ holds (few ++ r.txn ∷ []) key apart
    ∙ latest-push key first_version few r.txn

pub count-one_more : (p q : Received → Bool) (commits : List Received) (r : Received) → HaveDistinctStamps (map txn_of commits) → Among r commits → OneMore p q commits r
    → count_by q commits ≡ 1 + count_by p commits
count-one_more p q [] r distinct a h = absurd a
count-one_more p q (x ∷ xs) r distinct (inl is) h =
    count-cons q x xs
    ∙ (λ i. cond ((ap q is ∙ h.after) i) 1 0 + same-count q p xs (λ y a. sym (h.same y (inr a) (others x r xs distinct.0 is y a))) i)
    ∙ sym (ap (λ n. 1 + n) (count-cons p x xs ∙ ap (λ b. cond b 1 0 + count_by p xs) (ap p is ∙ h.before) ∙ none-more (count_by p xs)))
count-one_more p q (x ∷ xs) r distinct (inr a) h =
    let rest : count_by q xs ≡ 1 + count_by p xs = count-one_more p q xs r distinct.1 a (record { before = h.before; after = h.after; same = λ y b. h.same y (inr b) }) in
    let same : p x ≡ q x = h.same x (inl refl) (differs x r xs distinct.0 a) in
    count-cons q x xs
    ∙ (λ i. cond (sym same i) 1 0 + rest i)
    ∙ sums (cond (p x) 1 0) (count_by p xs)
    ∙ sym (ap (λ n. 1 + n) (count-cons p x xs))
  where
    sums : (m n : ℕ) → m + (1 + n) ≡ 1 + (m + n)
    sums m n = omega arith

-- ---- the stamp rises to the next commit above it

same-above : (low : Stamp) (commits : List Received) (r x : Received) → IsNext low commits r → Among x commits → x.txn.stamp ≢ r.txn.stamp → is_upto low x ≡ is_upto r.txn.stamp x
same-above low commits r x next a apart = by (is_before low x.txn.stamp) refl
  where
    by : (b : Bool) → is_before low x.txn.stamp ≡ b → is_upto low x ≡ is_upto r.txn.stamp x
    by true e = ap not (e ∙ sym (after_first x.txn.stamp r.txn.stamp apart (next.least x a e)))
    by false e = ap not (e ∙ sym (is_before-not_back x.txn.stamp r.txn.stamp (is_before-down x.txn.stamp low r.txn.stamp e next.above)))

pub next-one_more : (low : Stamp) (commits : List Received) (r : Received) → IsNext low commits r → OneMore (is_upto low) (is_upto r.txn.stamp) commits r
next-one_more low commits r next = record {
  before = ap not next.above;
  after = ap not (is_before-itself r.txn.stamp);
  same = λ x a apart. same-above low commits r x next a apart;
}

-- fewer lie above
pub above-fewer : (low : Stamp) (commits : List Received) (r : Received) → HaveDistinctStamps (map txn_of commits) → IsNext low commits r
    → count_by (λ x. not (is_upto low x)) commits ≡ 1 + count_by (λ x. not (is_upto r.txn.stamp x)) commits
above-fewer low commits r distinct next =
    let one = next-one_more low commits r next in
    count-one_more (λ x. not (is_upto r.txn.stamp x)) (λ x. not (is_upto low x)) commits r distinct next.among
    (record { before = ap not one.after; after = ap not one.before; same = λ x a apart. ap not (sym (one.same x a apart)) })

-- nothing lies between
pub same-upto : (low high : Stamp) (commits : List Received) → is_before high low ≡ false → ((x : Received) → Among x commits → is_before low x.txn.stamp ≡ true → is_before high x.txn.stamp ≡ true)
    → txns_upto low commits ≡ txns_upto high commits
same-upto low high commits order none = ap (map txn_of) (same-filter (is_upto low) (is_upto high) commits (λ x a. by x a (is_before low x.txn.stamp) refl))
  where
    by : (x : Received) → Among x commits → (b : Bool) → is_before low x.txn.stamp ≡ b → is_upto low x ≡ is_upto high x
    by x a true e = ap not (e ∙ sym (none x a e))
    by x a false e = ap not (e ∙ sym (not_before-through high low x.txn.stamp order e))

-- ---- a commit comes

pub upto-push : (stamp : Stamp) (commits : List Received) (r : Received) → txns_upto stamp (commits ++ r ∷ []) ≡ txns_upto stamp commits ++ map txn_of (cond (is_upto stamp r) (r ∷ []) [])
upto-push stamp commits r =
    ap (map txn_of) (filter-append (is_upto stamp) commits (r ∷ [])) ∙ map-append txn_of (filter (is_upto stamp) commits) (cond (is_upto stamp r) (r ∷ []) [])

pub latest-admitted : (key : ℕ) (stamp : Stamp) (commits : List Received) (r : Received)
    → latest_write key first_version (txns_upto stamp (commits ++ r ∷ []))
    ≡ cond (is_before stamp r.txn.stamp) (latest_write key first_version (txns_upto stamp commits)) (after_txn key r.txn (latest_write key first_version (txns_upto stamp commits)))
latest-admitted key stamp commits r = ap (latest_write key first_version) (upto-push stamp commits r) ∙ by (is_before stamp r.txn.stamp)
  where
    by : (b : Bool) → latest_write key first_version (txns_upto stamp commits ++ map txn_of (cond (not b) (r ∷ []) []))
        ≡ cond b (latest_write key first_version (txns_upto stamp commits)) (after_txn key r.txn (latest_write key first_version (txns_upto stamp commits)))
    by true = ap (latest_write key first_version) (append-nil (txns_upto stamp commits))
    by false = latest-push key first_version (txns_upto stamp commits) r.txn
