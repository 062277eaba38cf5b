-- The mark stamp of a list of stamped attempts goes by its members alone.
use Rattle.std.proofs.Common.{◌≡◌, ◌⊎◌, ◌∙◌, ℕ, Bool, true, false, cond, not, ◌&&◌, ◌||◌, ◌==◌, refl, sym, ap, subst, inl, inr, arith, List, [], ◌∷◌}
use Rattle.std.specs.List.{list_all}
use Rattle.std.proofs.lemmas.Bool.{false≢true}
use Rattle.std.proofs.lemmas.Bool.Decides.{nat_tests}
use Rattle.mk_lists.specs.Among.{Among}
use Rattle.mk_lists.proofs.Tests.{list_all-among, list_all-from_Among, same-from_tests}
use Rattle.mk_txn.specs.declared.Stamp.{Stamp}
use Rattle.mk_txn.specs.Stamps.{zero_stamp, is_before, later_stamp}
use Rattle.mk_txn.proofs.StampOrder.{same-from_neither, later_stamp-left, not_before-through, later_stamp-right}
use Rattle.mk_feed_words.specs.MarkStamps.{Stamped, greatest, last_of, is_below_open, is_within_lasts, may_be_marked, markable, mark_stamp, mark_for}
use Rattle.mk_mark_laws.proofs.MarkStamps.{HasStamp, last-cases}

-- each member of the one is a member of the other
abbrev pub IsPart : List Stamped → List Stamped → Type 0
IsPart xs ys = (s : Stamped) → Among s xs → Among s ys

not_below_zero : (s : Stamp) → is_before s zero_stamp ≡ false
not_below_zero s = grind (arith, nat_tests)

-- ---- what is open

open-part : (xs ys : List Stamped) (stamp : Stamp) → IsPart xs ys → is_below_open ys stamp ≡ true → is_below_open xs stamp ≡ true
open-part xs ys stamp part e =
    list_all-from_Among (λ s. s.closed || is_before stamp s.stamp) xs (λ s m. list_all-among (λ (x : Stamped). x.closed || is_before stamp x.stamp) ys s e (part s m))

open-same : (xs ys : List Stamped) (stamp : Stamp) → IsPart xs ys → IsPart ys xs → is_below_open xs stamp ≡ is_below_open ys stamp
open-same xs ys stamp to back = same-from_tests (is_below_open xs stamp) (is_below_open ys stamp) (open-part ys xs stamp back) (open-part xs ys stamp to)

-- ---- the last stamp of a client

-- no stamp of the client is above it
last-above : (xs : List Stamped) (client : ℕ) (s : Stamped) → Among s xs → (s.id.client == client) ≡ true → is_before (last_of xs client) s.stamp ≡ false
last-above [] client s m e = absurd m
last-above (x ∷ xs) client s m e = by (x.id.client == client) refl m (λ l. last-above xs client s l e)
  where
    by : (b : Bool) → (x.id.client == client) ≡ b → Among s (x ∷ xs) → (Among s xs → is_before (last_of xs client) s.stamp ≡ false) →
        is_before (cond b (later_stamp x.stamp (last_of xs client)) (last_of xs client)) s.stamp ≡ false
    by true k (inl same) again = subst (λ (y : Stamped). is_before (later_stamp x.stamp (last_of xs client)) y.stamp ≡ false) same (later_stamp-left x.stamp (last_of xs client))
    by true k (inr l) again = not_before-through (later_stamp x.stamp (last_of xs client)) (last_of xs client) s.stamp (later_stamp-right x.stamp (last_of xs client)) (again l)
    by false k (inl same) again = absurd (false≢true (sym k ∙ subst (λ (y : Stamped). (y.id.client == client) ≡ true) (sym same) e))
    by false k (inr l) again = again l

itself : (n : ℕ) → (n == n) ≡ true
itself n = grind (arith, nat_tests)

last-part : (xs ys : List Stamped) (client : ℕ) → IsPart xs ys → is_before (last_of ys client) (last_of xs client) ≡ false
last-part xs ys client part = by (last-cases xs client)
  where
    by : (last_of xs client ≡ zero_stamp) ⊎ HasStamp xs client (last_of xs client) → is_before (last_of ys client) (last_of xs client) ≡ false
    by (inl zero) = ap (is_before (last_of ys client)) zero ∙ not_below_zero (last_of ys client)
    by (inr h) =
        let client_is : (h.one.id.client == client) ≡ true = ap (λ (n : ℕ). n == client) h.of_client ∙ itself client in
        ap (is_before (last_of ys client)) (sym h.stamp_is) ∙ last-above ys client h.one (part h.one h.among) client_is

last-same : (xs ys : List Stamped) → IsPart xs ys → IsPart ys xs → (client : ℕ) → last_of xs client ≡ last_of ys client
last-same xs ys to back client = same-from_neither (last_of xs client) (last_of ys client) (last-part ys xs client back) (last-part xs ys client to)

-- ---- which stamps may be marked

may-same : (clients : List ℕ) (xs ys : List Stamped) (stamp : Stamp) → IsPart xs ys → IsPart ys xs → may_be_marked clients xs stamp ≡ may_be_marked clients ys stamp
may-same clients xs ys stamp to back =
    let o = open-same xs ys stamp to back in
    let l : is_within_lasts clients xs stamp ≡ is_within_lasts clients ys stamp =
    λ i. list_all (λ client. not (is_before (last-same xs ys to back client i) stamp)) clients in
    λ i. o i && l i

markable-there : (clients : List ℕ) (all part : List Stamped) (s : Stamped) → Among s part → may_be_marked clients all s.stamp ≡ true → Among s.stamp (markable clients all part)
markable-there clients all [] s m e = absurd m
markable-there clients all (x ∷ part) s m e = by (may_be_marked clients all x.stamp) refl m (λ l. markable-there clients all part s l e)
  where
    by : (b : Bool) → may_be_marked clients all x.stamp ≡ b → Among s (x ∷ part) → (Among s part → Among s.stamp (markable clients all part)) →
        Among s.stamp (cond b (x.stamp ∷ markable clients all part) (markable clients all part))
    by true k (inl same) again = inl (ap (λ (y : Stamped). y.stamp) same)
    by true k (inr l) again = inr (again l)
    by false k (inl same) again = absurd (false≢true (sym k ∙ subst (λ (y : Stamped). may_be_marked clients all y.stamp ≡ true) (sym same) e))
    by false k (inr l) again = again l

markable-from : (clients : List ℕ) (all part : List Stamped) (stamp : Stamp) → Among stamp (markable clients all part) →
    (s : Stamped) × Among s part × (s.stamp ≡ stamp) × (may_be_marked clients all s.stamp ≡ true)
markable-from clients all [] stamp m = absurd m
markable-from clients all (x ∷ part) stamp m = by (may_be_marked clients all x.stamp) refl (λ l. up (markable-from clients all part stamp l)) m
  where
    up : (s : Stamped) × Among s part × (s.stamp ≡ stamp) × (may_be_marked clients all s.stamp ≡ true) →
        (s : Stamped) × Among s (x ∷ part) × (s.stamp ≡ stamp) × (may_be_marked clients all s.stamp ≡ true)
    up g = (g.0, inr g.1, g.2, g.3)

    by : (b : Bool) → may_be_marked clients all x.stamp ≡ b →
        (Among stamp (markable clients all part) → (s : Stamped) × Among s (x ∷ part) × (s.stamp ≡ stamp) × (may_be_marked clients all s.stamp ≡ true)) →
        Among stamp (cond b (x.stamp ∷ markable clients all part) (markable clients all part)) →
        (s : Stamped) × Among s (x ∷ part) × (s.stamp ≡ stamp) × (may_be_marked clients all s.stamp ≡ true)
    by true k again (inl is) = (x, inl refl, is, k)
    by true k again (inr l) = again l
    by false k again l = again l

markable-part : (clients : List ℕ) (xs ys : List Stamped) → IsPart xs ys → IsPart ys xs → (stamp : Stamp) → Among stamp (markable clients xs xs) → Among stamp (markable clients ys ys)
markable-part clients xs ys to back stamp m =
    let g = markable-from clients xs xs stamp m in
    let s = g.0 in
    subst (λ (t : Stamp). Among t (markable clients ys ys)) g.2
    (markable-there clients ys ys s (to s g.1) (sym (may-same clients xs ys s.stamp to back) ∙ g.3))

-- ---- the greatest of some stamps

greatest-above : (stamps : List Stamp) (s : Stamp) → Among s stamps → is_before (greatest stamps) s ≡ false
greatest-above [] s m = absurd m
greatest-above (x ∷ stamps) s (inl same) = subst (λ (y : Stamp). is_before (later_stamp x (greatest stamps)) y ≡ false) same (later_stamp-left x (greatest stamps))
greatest-above (x ∷ stamps) s (inr l) =
    not_before-through (later_stamp x (greatest stamps)) (greatest stamps) s (later_stamp-right x (greatest stamps)) (greatest-above stamps s l)

greatest-cases : (stamps : List Stamp) → (greatest stamps ≡ zero_stamp) ⊎ Among (greatest stamps) stamps
greatest-cases [] = inl refl
greatest-cases (x ∷ stamps) = by (is_before x (greatest stamps)) (greatest-cases stamps)
  where
    by : (b : Bool) → (greatest stamps ≡ zero_stamp) ⊎ Among (greatest stamps) stamps → (cond b (greatest stamps) x ≡ zero_stamp) ⊎ Among (cond b (greatest stamps) x) (x ∷ stamps)
    by true (inl zero) = inl zero
    by true (inr m) = inr (inr m)
    by false g = inr (inl refl)

greatest-part : (xs ys : List Stamp) → ((s : Stamp) → Among s xs → Among s ys) → is_before (greatest ys) (greatest xs) ≡ false
greatest-part xs ys part = by (greatest-cases xs)
  where
    by : (greatest xs ≡ zero_stamp) ⊎ Among (greatest xs) xs → is_before (greatest ys) (greatest xs) ≡ false
    by (inl zero) = ap (is_before (greatest ys)) zero ∙ not_below_zero (greatest ys)
    by (inr m) = greatest-above ys (greatest xs) (part (greatest xs) m)

mark_stamp-same : (clients : List ℕ) (xs ys : List Stamped) → IsPart xs ys → IsPart ys xs → mark_stamp clients xs ≡ mark_stamp clients ys
mark_stamp-same clients xs ys to back =
    same-from_neither (mark_stamp clients xs) (mark_stamp clients ys)
    (greatest-part (markable clients ys ys) (markable clients xs xs) (markable-part clients ys xs back to))
    (greatest-part (markable clients xs xs) (markable clients ys ys) (markable-part clients xs ys to back))

-- lists with the same members have one mark stamp
pub mark-same : (clients : List ℕ) (xs ys : List Stamped) → IsPart xs ys → IsPart ys xs → mark_for clients xs ≡ mark_for clients ys
mark-same [] xs ys to back = refl
mark-same (client ∷ clients) xs ys to back = mark_stamp-same (client ∷ clients) xs ys to back
