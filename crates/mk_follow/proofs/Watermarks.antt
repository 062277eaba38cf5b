-- The watermark: it never falls, and it is the least stamp that the lanes have reached.
use Rattle.std.proofs.Common.{◌≡◌, ℕ, zero, suc, ◌+◌, ◌<◌, ◌≤◌, Bool, true, false, cond, eqb, ◌&&◌, refl, sym, ap, subst, ◌∙◌, arith, List, [], ◌∷◌, ◌++◌, fold, length, add-one}
use Rattle.std.specs.Prelude.{slice_get, Some}
use Rattle.std.proofs.lemmas.Bool.Decides.{nat_tests}
use Rattle.std.proofs.lemmas.List.Sums.{fold-append}
use Rattle.mk_txn.specs.declared.Stamp.{Stamp}
use Rattle.mk_txn.specs.Stamps.{is_before, zero_stamp, later_stamp}
use Rattle.mk_feed_words.specs.declared.Received.{Received}
use Rattle.mk_feed_words.specs.declared.Mark.{Mark}
use Rattle.mk_feed_words.specs.Feed.{earlier_stamp, is_met, after_mark, reached, least_to, least_over, watermark}
use Rattle.mk_follow.specs.declared.lane.Lane.{Lane}
use Rattle.mk_follow.specs.Kept.{reached_at, LanesFit}
use Rattle.mk_follow.proofs.MarkLaws.{met-more}

-- one more column
pub least_over-more : (f : ℕ → Stamp) (n : ℕ) → 0 < n → least_over f (n + 1) ≡ earlier_stamp (least_over f n) (f n)
least_over-more f zero some = absurd (omega arith)
least_over-more f (suc n) some = rw (add-one) refl

-- ---- it never falls

-- s is not above t
AtMost : Stamp → Stamp → Type 0
AtMost s t = is_before t s ≡ false

later-left : (a b : Stamp) → AtMost a (later_stamp a b)
unfolding AtMost
later-left a b = grind (arith, nat_tests)

later-both : (a b c : Stamp) → AtMost a b → AtMost (later_stamp a c) (later_stamp b c)
unfolding AtMost
later-both a b c h = grind (arith, nat_tests)

later-right : (a b c : Stamp) → AtMost a b → AtMost a (later_stamp b c)
unfolding AtMost
later-right a b c h = grind (arith, nat_tests)

earlier-both : (a b c d : Stamp) → AtMost a b → AtMost c d → AtMost (earlier_stamp a c) (earlier_stamp b d)
unfolding AtMost
earlier-both a b c d h k = grind (arith, nat_tests)

itself : (a : Stamp) → AtMost a a
unfolding AtMost
itself a = grind (arith, nat_tests)

mark-rises : (column : ℕ) (commits : List Received) (r : Received) (s t : Stamp) (mark : Mark) → AtMost s t → AtMost (after_mark column commits s mark) (after_mark column (commits ++ r ∷ []) t mark)
mark-rises column commits r s t mark h = by (eqb mark.column column)
  where
    by_met : (a : Bool) → is_met commits mark ≡ a → AtMost (cond a (later_stamp s mark.upto) s) (cond (is_met (commits ++ r ∷ []) mark) (later_stamp t mark.upto) t)
    by_met true e = subst (λ b. AtMost (later_stamp s mark.upto) (cond b (later_stamp t mark.upto) t)) (sym (met-more commits r mark e)) (later-both s t mark.upto h)
    by_met false e = either (is_met (commits ++ r ∷ []) mark)
      where
        either : (b : Bool) → AtMost s (cond b (later_stamp t mark.upto) t)
        either true = later-right s t mark.upto h
        either false = h

    by : (c : Bool) → AtMost (cond (c && is_met commits mark) (later_stamp s mark.upto) s) (cond (c && is_met (commits ++ r ∷ []) mark) (later_stamp t mark.upto) t)
    by false = h
    by true = by_met (is_met commits mark) refl

marks-rise : (column : ℕ) (commits : List Received) (r : Received) (marks : List Mark) (s t : Stamp) → AtMost s t
    → AtMost (fold (after_mark column commits) s marks) (fold (after_mark column (commits ++ r ∷ [])) t marks)
marks-rise column commits r [] s t h = h
marks-rise column commits r (mark ∷ marks) s t h =
    marks-rise column commits r marks (after_mark column commits s mark) (after_mark column (commits ++ r ∷ []) t mark) (mark-rises column commits r s t mark h)

mark-last : (column : ℕ) (commits : List Received) (marks : List Mark) (mark : Mark) → AtMost (reached column commits marks) (reached column commits (marks ++ mark ∷ []))
mark-last column commits marks mark =
    subst (AtMost (reached column commits marks)) (sym (fold-append (after_mark column commits) zero_stamp marks (mark ∷ [])))
    (by (reached column commits marks) (eqb mark.column column && is_met commits mark))
  where
    by : (s : Stamp) (b : Bool) → AtMost s (cond b (later_stamp s mark.upto) s)
    by s true = later-left s mark.upto
    by s false = itself s

least-rises : (f g : ℕ → Stamp) → ((k : ℕ) → AtMost (f k) (g k)) → (n : ℕ) → AtMost (least_to f n) (least_to g n)
least-rises f g h zero = h zero
least-rises f g h (suc n) = earlier-both (least_to f n) (least_to g n) (f (suc n)) (g (suc n)) (least-rises f g h n) (h (suc n))

pub watermark-commit : (columns : ℕ) (commits : List Received) (marks : List Mark) (r : Received) → is_before (watermark columns (commits ++ r ∷ []) marks) (watermark columns commits marks) ≡ false
unfolding AtMost
watermark-commit zero commits marks r = itself zero_stamp
watermark-commit (suc n) commits marks r =
    least-rises (λ column. reached column commits marks) (λ column. reached column (commits ++ r ∷ []) marks) (λ column. marks-rise column commits r marks zero_stamp zero_stamp (itself zero_stamp)) n

pub watermark-mark : (columns : ℕ) (commits : List Received) (marks : List Mark) (mark : Mark) → is_before (watermark columns commits (marks ++ mark ∷ [])) (watermark columns commits marks) ≡ false
unfolding AtMost
watermark-mark zero commits marks mark = itself zero_stamp
watermark-mark (suc n) commits marks mark =
    least-rises (λ column. reached column commits marks) (λ column. reached column commits (marks ++ mark ∷ [])) (λ column. mark-last column commits marks mark) n

pub watermark-itself : (stamp : Stamp) → is_before stamp stamp ≡ false
unfolding AtMost
watermark-itself stamp = itself stamp

-- ---- by the lanes

lane-at : (lanes : List Lane) (c : ℕ) → c < length lanes → (lane : Lane) × (slice_get lanes c ≡ Some lane) × (reached_at lanes c ≡ lane.reached)
lane-at [] c lt = absurd (omega (arith, lt))
lane-at (lane ∷ lanes) zero lt = (lane, refl, refl)
lane-at (lane ∷ lanes) (suc c) lt = lane-at lanes c (omega (arith, lt))

least_to-same : (f g : ℕ → Stamp) (n : ℕ) → ((k : ℕ) → k ≤ n → f k ≡ g k) → least_to f n ≡ least_to g n
least_to-same f g zero h = h zero (omega arith)
least_to-same f g (suc n) h = λ i. earlier_stamp (least_to-same f g n (λ k le. h k (omega (arith, le))) i) (h (suc n) (omega arith) i)

least_over-same : (f g : ℕ → Stamp) (n : ℕ) → ((k : ℕ) → k < n → f k ≡ g k) → least_over f n ≡ least_over g n
least_over-same f g zero h = refl
least_over-same f g (suc n) h = least_to-same f g n (λ k le. h k (omega (arith, le)))

pub least-watermark : (columns : ℕ) (commits : List Received) (marks : List Mark) (lanes : List Lane) → LanesFit columns commits marks lanes
    → least_over (reached_at lanes) (length lanes) ≡ watermark columns commits marks
least-watermark columns commits marks lanes h =
    least_over-same (reached_at lanes) (λ column. reached column commits marks) (length lanes) (λ k lt. let at = lane-at lanes k lt in at.2 ∙ (h.each k at.0 at.1).reaches)
    ∙ ap (least_over (λ column. reached column commits marks)) h.wide
