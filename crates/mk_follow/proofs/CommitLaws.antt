-- The indexes of the commits: what a commit that is kept changes, and which commit lies next above a stamp.
use Rattle.std.proofs.Common.{◌≡◌, ℕ, zero, suc, ◌+◌, ◌-◌, ◌<◌, ◌≤◌, Bool, true, false, cond, not, ◌&&◌, eqb, refl, sym, ap, subst, ◌∙◌, inl, inr, ⊎_elim, arith, List, [], ◌∷◌, ◌++◌, length, map, get_or, count_by, Option, Some, None}
use Rattle.std.specs.Prelude.{slice_get, slice_set, find, is_some, nat_lt, option_copied, IfSome}
use Rattle.std.specs.Borrow.{Bor}
use Rattle.std.specs.List.{list_any}
use Rattle.std.proofs.lemmas.Bool.{false≢true, true≢false, eqb-true, eq-eqb}
use Rattle.std.proofs.lemmas.Bool.Decides.{nat_tests}
use Rattle.std.proofs.lemmas.Option.{slice_get_within, slice_get-get_or, slice_get_cases, none-some, same_Some}
use Rattle.mk_lists.specs.Among.{Among, Each, Each-among, Each-weaker, Among-append}
use Rattle.mk_lists.specs.Keyed.{IsIndex}
use Rattle.mk_lists.proofs.Members.{slice_get-from_Among, Among-slice_get, Among-get_or}
use Rattle.mk_lists.proofs.Tests.{list_any-map}
use Rattle.mk_lists.proofs.Lookups.{list_any-find}
use Rattle.mk_lists.proofs.Places.{slice_get-append_left, slice_get_push, slice_get-set_same, slice_get-set_other}
use Rattle.mk_lists.proofs.KeyedLists.{IsIndex-pushed}
use Rattle.mk_txn.specs.declared.Stamp.{Stamp}
use Rattle.mk_txn.specs.declared.TxnId.{TxnId}
use Rattle.mk_txn.specs.Stamps.{is_before}
use Rattle.mk_txn.specs.Transactions.{same_id}
use Rattle.mk_txn.proofs.IdOrder.{same_id-tells, same_id-itself}
use Rattle.mk_txn.proofs.StampOrder.{is_before-itself}
use Rattle.mk_feed_words.specs.declared.Received.{Received}
use Rattle.mk_feed_words.specs.Feed.{is_upto}
use Rattle.mk_follow.specs.Following.{has_id}
use Rattle.mk_follow.specs.Orders.{IsAscending, placed, count_upto, Counts, HasPlace, HasEntry, IsOrderOf, IsNextAbove}
use Rattle.mk_follow.specs.Commits.{CommitsKept}
use Rattle.mk_follow.proofs.Counting.{count-push, count-both}
use Rattle.mk_follow.proofs.OrderLaws.{ascending-at, Each-placed, Among-placed, Among-placed_itself, IsAscending-placed, count_upto-placed, count-at}

-- ---- one commit more

counts-more : (passes : Received → Bool) (commits : List Received) (order : List (Stamp × ℕ)) (r : Received) (n : ℕ) → Counts passes commits order → passes r ≡ true
    → Counts passes (commits ++ r ∷ []) (placed (r.txn.stamp, n) order)
counts-more passes commits order r n h passed = record {
  ascending = IsAscending-placed (r.txn.stamp, n) order h.ascending;
  counts = λ stamp.
      let q : Received → Bool = λ x. passes x && is_upto stamp x in
      count_upto-placed stamp (r.txn.stamp, n) order
      ∙ (λ i. h.counts stamp i + cond (sym passed i && is_upto stamp r) 1 0)
      ∙ sym (count-push q commits r);
}

counts-other : (passes : Received → Bool) (commits : List Received) (order : List (Stamp × ℕ)) (r : Received) → Counts passes commits order → passes r ≡ false
    → Counts passes (commits ++ r ∷ []) order
counts-other passes commits order r h fails = record {
  ascending = h.ascending;
  counts = λ stamp.
      let q : Received → Bool = λ x. passes x && is_upto stamp x in
      let same : count_by q (commits ++ r ∷ []) ≡ count_by q commits + 0 = count-push q commits r ∙ ap (λ b. count_by q commits + cond (b && is_upto stamp r) 1 0) fails in
      let none : count_by q commits + 0 ≡ count_by q commits = omega arith in
      h.counts stamp ∙ sym (same ∙ none);
}

place-more : (commits : List Received) (r : Received) (entry : Stamp × ℕ) → HasPlace commits entry → HasPlace (commits ++ r ∷ []) entry
place-more commits r entry h = record {
  commit = h.commit;
  stands = slice_get-append_left commits (r ∷ []) entry.1 (slice_get_within commits entry.1 h.commit h.stands) ∙ h.stands;
  stamp = h.stamp;
}

order-more : (commits : List Received) (order : List (Stamp × ℕ)) (r : Received) → IsOrderOf commits order → IsOrderOf (commits ++ r ∷ []) (placed (r.txn.stamp, length commits) order)
order-more commits order r h = record {
  counted = counts-more (λ x. true) commits order r (length commits) h.counted refl;
  places =
      Each-placed (HasPlace (commits ++ r ∷ [])) (r.txn.stamp, length commits) order
      (record { commit = r; stands = slice_get_push commits r (length commits) refl; stamp = refl })
      (Each-weaker (HasPlace commits) (HasPlace (commits ++ r ∷ [])) (place-more commits r) order h.places);
  entries = λ x a. ⊎_elim
      (λ old. let e = h.entries x old in record { entry = e.entry; among = Among-placed e.entry (r.txn.stamp, length commits) order e.among; stamp = e.stamp })
      (λ new. newest x new)
      (Among-append x commits (r ∷ []) a);
}
  where
    newest : (x : Received) → Among x (r ∷ []) → HasEntry (placed (r.txn.stamp, length commits) order) x
    newest x (inl e) = record { entry = (r.txn.stamp, length commits); among = Among-placed_itself (r.txn.stamp, length commits) order; stamp = ap (λ (y : Received). y.txn.stamp) e }
    newest x (inr a) = absurd a

none-from : {X : Type 0} (o : Option X) → is_some o ≡ false → o ≡ None
none-from None e = refl
none-from (Some x) e = absurd (true≢false e)

pub kept-more : (commits : List Received) (ids : List TxnId) (order : List (Stamp × ℕ)) (columns : List (List (Stamp × ℕ))) (r : Received) (column : List (Stamp × ℕ))
    → CommitsKept commits ids order columns → has_id r.txn.id commits ≡ false → slice_get columns r.column ≡ Some column
    → CommitsKept (commits ++ r ∷ []) (ids ++ r.txn.id ∷ []) (placed (r.txn.stamp, length commits) order) (slice_set columns r.column (placed (r.txn.stamp, length commits) column))
kept-more commits ids order columns r column h new at = record {
  index =
      IsIndex-pushed same_id (λ (x : Received). x.txn.id) same_id-tells same_id-itself commits r ids
      (none-from (find (λ (x : Received). same_id x.txn.id r.txn.id) commits) (sym (list_any-find (λ (x : Received). same_id x.txn.id r.txn.id) commits) ∙ new)) h.index;
  all = order-more commits order r h.all;
  each = λ c other stands. by_column c other stands (eqb r.column c) refl;
}
  where
    by_column : (c : ℕ) (other : List (Stamp × ℕ)) → slice_get (slice_set columns r.column (placed (r.txn.stamp, length commits) column)) c ≡ Some other
        → (b : Bool) → eqb r.column c ≡ b → Counts (λ x. eqb x.column c) (commits ++ r ∷ []) other
    by_column c other stands true e =
        let same : r.column ≡ c = eqb-true r.column c e in
        let old : slice_get columns c ≡ Some column = subst (λ k. slice_get columns k ≡ Some column) same at in
        let is : slice_get (slice_set columns r.column (placed (r.txn.stamp, length commits) column)) c ≡ Some (placed (r.txn.stamp, length commits) column) =
        subst (λ k. slice_get (slice_set columns r.column (placed (r.txn.stamp, length commits) column)) k ≡ Some (placed (r.txn.stamp, length commits) column)) same
        (slice_get-set_same columns r.column (placed (r.txn.stamp, length commits) column) (slice_get_within columns r.column column at)) in
        subst (λ xs. Counts (λ x. eqb x.column c) (commits ++ r ∷ []) xs) (same_Some (placed (r.txn.stamp, length commits) column) other (sym is ∙ stands))
        (counts-more (λ x. eqb x.column c) commits column r (length commits) (h.each c column old) e)
    by_column c other stands false e =
        let differs : c ≡ r.column → ⊥ = λ same. false≢true (sym e ∙ eq-eqb r.column c (sym same)) in
        counts-other (λ x. eqb x.column c) commits other r
        (h.each c other (sym (slice_get-set_other columns r.column c (placed (r.txn.stamp, length commits) column) differs) ∙ stands)) e

-- ---- nothing kept yet

pub none-kept : (columns : List (List (Stamp × ℕ))) → Each (λ column. column ≡ []) columns → CommitsKept [] [] [] columns
none-kept columns empty = record {
  index = record { keys_are = refl; distinct = tt };
  all = record { counted = record { ascending = tt; counts = λ stamp. refl }; places = tt; entries = λ r a. absurd a };
  each = λ c column at.
      let none : column ≡ [] = Each-among (λ xs. xs ≡ []) column columns empty (Among-slice_get columns c column at) in
      subst (λ xs. Counts (λ r. eqb r.column c) [] xs) (sym none) (record { ascending = tt; counts = λ stamp. refl });
}

-- ---- who was received

same_id-back : (a b : TxnId) → same_id a b ≡ same_id b a
same_id-back a b = grind (arith, nat_tests)

pub has-ids : (commits : List Received) (ids : List TxnId) (id : TxnId) → IsIndex (λ (r : Received). r.txn.id) commits ids → list_any (same_id id) ids ≡ has_id id commits
has-ids commits ids id h =
    ap (list_any (same_id id)) h.keys_are
    ∙ list_any-map (same_id id) (λ (r : Received). r.txn.id) commits
    ∙ (λ i. list_any (λ (r : Received). same_id-back id r.txn.id i) commits)

-- ---- the next commit above a stamp

-- where an entry that lies above a stamp stands
above-at : (stamp : Stamp) (order : List (Stamp × ℕ)) (entry : Stamp × ℕ) → IsAscending order → Among entry order → is_before stamp entry.0 ≡ true
    → (i : ℕ) × (count_upto stamp order ≤ i) × (i < length order) × (get_or order i entry ≡ entry)
above-at stamp order entry h a above =
    let found = slice_get-from_Among entry order a in
    let within : found.0 < length order = slice_get_within order found.0 entry found.1 in
    let at : get_or order found.0 entry ≡ entry = same_Some (get_or order found.0 entry) entry (sym (slice_get-get_or order found.0 entry within) ∙ found.1) in
    (found.0, behind found.0 within at, within, at)
  where
    behind : (i : ℕ) → i < length order → get_or order i entry ≡ entry → count_upto stamp order ≤ i
    behind i within at = by (nat_lt i (count_upto stamp order)) refl
      where
        by : (b : Bool) → nat_lt i (count_upto stamp order) ≡ b → count_upto stamp order ≤ i
        by false e = grind (arith, nat_tests, e)
        by true e =
            let lt : i < count_upto stamp order = grind (arith, nat_tests, e) in
            let low : not (is_before stamp (get_or order i entry).0) ≡ true = (count-at stamp order i entry h).0 lt in
            absurd (false≢true (sym (ap (λ (z : Stamp × ℕ). not (is_before stamp z.0)) at ∙ ap not above) ∙ low))

pub next-none : (stamp : Stamp) (commits : List Received) (order : List (Stamp × ℕ)) → IsOrderOf commits order → length order ≤ count_upto stamp order → IsNextAbove stamp commits None
next-none stamp commits order h past other a = by (is_before stamp other.txn.stamp) refl
  where
    by : (b : Bool) → is_before stamp other.txn.stamp ≡ b → b ≡ false
    by false e = refl
    by true e =
        let entry = h.entries other a in
        let at = above-at stamp order entry.entry h.counted.ascending entry.among (ap (is_before stamp) entry.stamp ∙ e) in
        absurd (omega (arith, past, at.1, at.2))

same-at : (xs : List (Stamp × ℕ)) (i : ℕ) (d e : Stamp × ℕ) → i < length xs → get_or xs i d ≡ get_or xs i e
same-at [] i d e lt = absurd (omega (arith, lt))
same-at (x ∷ xs) zero d e lt = refl
same-at (x ∷ xs) (suc i) d e lt = same-at xs i d e (omega (arith, lt))

pub next-some : (stamp : Stamp) (commits : List Received) (order : List (Stamp × ℕ)) (entry : Stamp × ℕ) (r : Received) → IsOrderOf commits order
    → count_upto stamp order < length order → get_or order (count_upto stamp order) entry ≡ entry → slice_get commits entry.1 ≡ Some r → IsNextAbove stamp commits (Some r)
next-some stamp commits order entry r h within at stands = record {
  among = Among-slice_get commits entry.1 r stands;
  above = ap (is_before stamp) (sym stamp_is) ∙ above;
  least = λ other a e. least other a e;
}
  where
    place : HasPlace commits entry
    place = Each-among (HasPlace commits) entry order h.places (subst (λ (z : Stamp × ℕ). Among z order) at (Among-get_or order (count_upto stamp order) entry within))

    stamp_is : entry.0 ≡ r.txn.stamp
    stamp_is = place.stamp ∙ ap (λ (x : Received). x.txn.stamp) (same_Some place.commit r (sym place.stands ∙ stands))

    above : is_before stamp entry.0 ≡ true
    above =
        let high : not (is_before stamp (get_or order (count_upto stamp order) entry).0) ≡ false = (count-at stamp order (count_upto stamp order) entry h.counted.ascending).1 (omega arith) within in
        true-from (is_before stamp entry.0) (ap (λ (z : Stamp × ℕ). not (is_before stamp z.0)) (sym at) ∙ high)
      where
        true-from : (b : Bool) → not b ≡ false → b ≡ true
        true-from true e = refl
        true-from false e = absurd (true≢false e)

    least : (other : Received) → Among other commits → is_before stamp other.txn.stamp ≡ true → is_before other.txn.stamp r.txn.stamp ≡ false
    least other a e =
        let its = h.entries other a in
        let where_it_is = above-at stamp order its.entry h.counted.ascending its.among (ap (is_before stamp) its.stamp ∙ e) in
        by its.entry (its.stamp) where_it_is.0 where_it_is.1 where_it_is.2 where_it_is.3 (nat_lt (count_upto stamp order) where_it_is.0) refl
      where
        by : (z : Stamp × ℕ) → z.0 ≡ other.txn.stamp → (i : ℕ) → count_upto stamp order ≤ i → i < length order → get_or order i z ≡ z → (b : Bool) → nat_lt (count_upto stamp order) i ≡ b
            → is_before other.txn.stamp r.txn.stamp ≡ false
        by z is i le lt here true f =
            let k : is_before (get_or order i entry).0 (get_or order (count_upto stamp order) entry).0 ≡ false =
            ascending-at order (count_upto stamp order) i entry h.counted.ascending (grind (arith, nat_tests, f)) lt in
            (λ j. is_before (sym is j) (sym stamp_is j)) ∙ (λ j. is_before (sym (same-at order i entry z lt ∙ here) j).0 (sym at j).0) ∙ k
        by z is i le lt here false f =
            let same : i ≡ count_upto stamp order = grind (arith, nat_tests, f, le) in
            let one : z ≡ entry = sym here ∙ same-at order i z entry lt ∙ ap (λ n. get_or order n entry) same ∙ at in
            (λ j. is_before (sym (sym (ap (λ (y : Stamp × ℕ). y.0) one) ∙ is) j) (sym stamp_is j)) ∙ is_before-itself entry.0

-- the entry behind all those at or below the stamp
pub next-at : (stamp : Stamp) (commits : List Received) (order : List (Stamp × ℕ)) (place : ℕ) (entry : Stamp × ℕ) (got : Option Received) → IsOrderOf commits order → place ≡ count_upto stamp order
    → slice_get order place ≡ Some entry → got ≡ slice_get commits entry.1 → IsNextAbove stamp commits got
next-at stamp commits order place entry got h is at got_is =
    let within : place < length order = slice_get_within order place entry at in
    let here : get_or order place entry ≡ entry = same_Some (get_or order place entry) entry (sym (slice_get-get_or order place entry within) ∙ at) in
    let of = Each-among (HasPlace commits) entry order h.places (Among-slice_get order place entry at) in
    subst (IsNextAbove stamp commits) (sym (got_is ∙ of.stands))
    (next-some stamp commits order entry of.commit h (subst (λ k. k < length order) is within) (subst (λ k. get_or order k entry ≡ entry) is here) of.stands)

pub next-past : (stamp : Stamp) (commits : List Received) (order : List (Stamp × ℕ)) (place : ℕ) → IsOrderOf commits order → place ≡ count_upto stamp order → slice_get order place ≡ None
    → IsNextAbove stamp commits None
next-past stamp commits order place h is none =
    let past : length order ≤ place = ⊎_elim (λ s. absurd (none-some s.0 (sym none ∙ s.2))) (λ n. n.0) (slice_get_cases order place).1 in
    next-none stamp commits order h (subst (λ k. length order ≤ k) is past)

-- ---- what is read

pub read-map : {X Y : Type 0} (xs : List X) (f : X → Y) (i : ℕ) (x : X) → i < length xs → x ≡ get_or xs i x → slice_get (map f xs) i ≡ Some (f x)
read-map [] f i x lt e = absurd (omega (arith, lt))
read-map (y ∷ ys) f zero x lt e = ap (λ z. Some (f z)) (sym e)
read-map (y ∷ ys) f (suc i) x lt e = read-map ys f i x (omega (arith, lt)) e

pub copied-among : {X : Type 0} (o : Option (Bor X)) (xs : List X) (i : ℕ) → option_copied o ≡ slice_get xs i → IfSome o (λ r. Among r.now xs)
copied-among None xs i e = tt
copied-among (Some r) xs i e = Among-slice_get xs i r.now (sym e)

-- how many lie above a stamp
pub above-is : (stamp : Stamp) (commits : List Received) (order : List (Stamp × ℕ)) → IsOrderOf commits order
    → (count_upto stamp order ≤ length commits) × (length commits - count_upto stamp order ≡ count_by (λ r. not (is_upto stamp r)) commits)
above-is stamp commits order h =
    let both : count_by (is_upto stamp) commits + count_by (λ r. not (is_upto stamp r)) commits ≡ length commits = count-both (is_upto stamp) commits in
    let low : count_upto stamp order ≡ count_by (is_upto stamp) commits = h.counted.counts stamp in
    (omega (arith, both, low), omega (arith, both, low))
