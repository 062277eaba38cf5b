-- The greatest mark that is met: what commits and marks do to it.
use Rattle.std.proofs.Common.{◌≡◌, ◌⊎◌, ℕ, ◌+◌, ◌≤◌, Bool, true, false, cond, leb, eqb, ◌&&◌, refl, sym, ap, subst, ◌∙◌, inl, inr, ⊎_elim, arith, List, [], ◌∷◌, ◌++◌, fold}
use Rattle.std.proofs.lemmas.Bool.{false≢true, eqb-true, eq-eqb, and_parts, and_from, leb-true, le-leb}
use Rattle.std.proofs.lemmas.Bool.Decides.{nat_tests}
use Rattle.std.proofs.lemmas.List.Sums.{fold-append}
use Rattle.mk_lists.specs.Among.{Among, Among-append, Among-append_left, Among-append_right}
use Rattle.mk_lists.proofs.Members.{Among-filter, Among-from_filter}
use Rattle.mk_txn.specs.declared.Stamp.{Stamp}
use Rattle.mk_txn.specs.Stamps.{zero_stamp, is_before, later_stamp}
use Rattle.mk_txn.proofs.StampOrder.{is_before-itself, is_before-down, not_before-through, same-from_neither, later_stamp-left, later_stamp-right}
use Rattle.mk_feed_words.specs.declared.Received.{Received}
use Rattle.mk_feed_words.specs.declared.Mark.{Mark}
use Rattle.mk_feed_words.specs.Feed.{is_counted, is_upto, counted, is_met, after_mark, reached}
use Rattle.mk_follow.specs.Lanes.{after_waiting, reached_out_of, marks_above, waiting_after, LaneFits}
use Rattle.mk_follow.proofs.Counting.{count-push}

-- ---- the greatest of marks that pass

-- one of these marks passes and has this stamp
record Stands (test : Mark → Bool) (marks : List Mark) (stamp : Stamp) : Type 0 where
  pub mark : Mark
  pub among : Among mark marks
  pub passes : test mark ≡ true
  pub stamp_is : mark.upto ≡ stamp

-- the stamp is the first one or that of a mark that passes, and not below any of these
record IsGreatest (test : Mark → Bool) (marks : List Mark) (first stamp : Stamp) : Type 0 where
  pub is : (stamp ≡ first) ⊎ Stands test marks stamp
  pub not_below_first : is_before stamp first ≡ false
  pub not_below : (mark : Mark) → Among mark marks → test mark ≡ true → is_before stamp mark.upto ≡ false

stands-more : (test : Mark → Bool) (marks : List Mark) (m : Mark) (stamp : Stamp) → Stands test marks stamp → Stands test (m ∷ marks) stamp
stands-more test marks m stamp s = record { mark = s.mark; among = inr s.among; passes = s.passes; stamp_is = s.stamp_is }

abbrev taken : (Mark → Bool) → Stamp → Mark → Stamp
taken test stamp mark = cond (test mark) (later_stamp stamp mark.upto) stamp

greatest-fold : (test : Mark → Bool) (marks : List Mark) (first : Stamp) → IsGreatest test marks first (fold (taken test) first marks)
greatest-fold test [] first = record { is = inl refl; not_below_first = is_before-itself first; not_below = λ mark a e. absurd a }
greatest-fold test (m ∷ marks) first = by (greatest-fold test marks) (test m) refl
  where
    keeps : (next : Stamp) → IsGreatest test marks next (fold (taken test) next marks) → is_before next first ≡ false → ((next ≡ first) ⊎ Stands test (m ∷ marks) next)
        → (test m ≡ true → is_before next m.upto ≡ false) → IsGreatest test (m ∷ marks) first (fold (taken test) next marks)
    keeps next g low here above =
        let stamp : Stamp = fold (taken test) next marks in
        record {
          is = ⊎_elim (λ same. ⊎_elim (λ f. inl (same ∙ f)) (λ s. inr (subst (λ t. Stands test (m ∷ marks) t) (sym same) s)) here) (λ s. inr (stands-more test marks m stamp s)) g.is;
          not_below_first = not_before-through stamp next first g.not_below_first low;
          not_below = λ mark a e. ⊎_elim
              (λ is. not_before-through stamp next mark.upto g.not_below_first (subst (λ (x : Mark). is_before next x.upto ≡ false) is (above (ap test is ∙ e))))
              (λ rest. g.not_below mark rest e)
              a;
        }

    by : ((next : Stamp) → IsGreatest test marks next (fold (taken test) next marks)) → (b : Bool) → test m ≡ b → IsGreatest test (m ∷ marks) first (fold (taken test) (cond (test m) (later_stamp first m.upto) first) marks)
    by again true e =
        subst (λ c. IsGreatest test (m ∷ marks) first (fold (taken test) (cond c (later_stamp first m.upto) first) marks)) (sym e)
        (keeps (later_stamp first m.upto) (again (later_stamp first m.upto)) (later_stamp-left first m.upto)
        (either (is_before first m.upto)) (λ t. later_stamp-right first m.upto))
      where
        either : (c : Bool) → (cond c m.upto first ≡ first) ⊎ Stands test (m ∷ marks) (cond c m.upto first)
        either true = inr (record { mark = m; among = inl refl; passes = e; stamp_is = refl })
        either false = inl refl
    by again false e =
        subst (λ c. IsGreatest test (m ∷ marks) first (fold (taken test) (cond c (later_stamp first m.upto) first) marks)) (sym e)
        (keeps first (again first) (is_before-itself first) (inl refl) (λ t. absurd (false≢true (sym e ∙ t))))

lowest : (stamp : Stamp) → is_before stamp zero_stamp ≡ false
lowest stamp = grind (arith, nat_tests)

-- there is one greatest
greatest-below : (test : Mark → Bool) (marks : List Mark) (s t : Stamp) → IsGreatest test marks zero_stamp s → IsGreatest test marks zero_stamp t → is_before s t ≡ false
greatest-below test marks s t g h = ⊎_elim
    (λ z. ap (is_before s) z ∙ lowest s)
    (λ st. ap (is_before s) (sym st.stamp_is) ∙ g.not_below st.mark st.among st.passes)
    h.is

greatest-one : (test : Mark → Bool) (marks : List Mark) (s t : Stamp) → IsGreatest test marks zero_stamp s → IsGreatest test marks zero_stamp t → s ≡ t
greatest-one test marks s t g h = same-from_neither s t (greatest-below test marks s t g h) (greatest-below test marks t s h g)

-- ---- one commit more

abbrev is_own : ℕ → List Received → Mark → Bool
is_own column commits mark = eqb mark.column column && is_met commits mark

counted-more : (column : ℕ) (upto : Stamp) (commits : List Received) (r : Received) → counted column upto commits ≤ counted column upto (commits ++ r ∷ [])
counted-more column upto commits r =
    let e : counted column upto (commits ++ r ∷ []) ≡ counted column upto commits + cond (is_counted column upto r) 1 0 = count-push (is_counted column upto) commits r in
    omega (arith, e)

pub met-more : (commits : List Received) (r : Received) (mark : Mark) → is_met commits mark ≡ true → is_met (commits ++ r ∷ []) mark ≡ true
met-more commits r mark met =
    let more : counted mark.column mark.upto commits ≤ counted mark.column mark.upto (commits ++ r ∷ []) = counted-more mark.column mark.upto commits r in
    let few : mark.count ≤ counted mark.column mark.upto commits = leb-true mark.count (counted mark.column mark.upto commits) met in
    le-leb mark.count (counted mark.column mark.upto (commits ++ r ∷ [])) (omega (arith, more, few))

pub lane-settled : (column : ℕ) (commits : List Received) (r : Received) (marks waiting : List Mark) (stamp : Stamp) → LaneFits column commits marks waiting stamp
    → LaneFits column (commits ++ r ∷ []) marks (marks_above (reached_out_of (commits ++ r ∷ []) stamp waiting) waiting) (reached_out_of (commits ++ r ∷ []) stamp waiting)
lane-settled column commits r marks waiting stamp h = record {
  reaches = greatest-one (is_own column all) marks next (reached column all marks) greatest (greatest-fold (is_own column all) marks zero_stamp);
  waits = λ mark a own above.
      Among-filter (λ (m : Mark). is_before next m.upto) mark waiting (h.waits mark a own (is_before-down stamp next mark.upto out.not_below_first above)) above;
  from = λ mark a. h.from mark (Among-from_filter (λ (m : Mark). is_before next m.upto) mark waiting a).0;
}
  where
    all : List Received
    all = commits ++ r ∷ []

    next : Stamp
    next = reached_out_of all stamp waiting

    out : IsGreatest (is_met all) waiting stamp next
    out = greatest-fold (is_met all) waiting stamp

    old : IsGreatest (is_own column commits) marks zero_stamp stamp
    old = subst (λ t. IsGreatest (is_own column commits) marks zero_stamp t) (sym h.reaches) (greatest-fold (is_own column commits) marks zero_stamp)

    own-more : (mark : Mark) → is_own column commits mark ≡ true → is_own column all mark ≡ true
    own-more mark e =
        let both = and_parts (eqb mark.column column) (is_met commits mark) e in
        and_from (eqb mark.column column) (is_met all mark) both.0 (met-more commits r mark both.1)

    old-stands : Stands (is_own column commits) marks stamp → next ≡ stamp → Stands (is_own column all) marks next
    old-stands s same = record { mark = s.mark; among = s.among; passes = own-more s.mark s.passes; stamp_is = s.stamp_is ∙ sym same }

    new-stands : Stands (is_met all) waiting next → Stands (is_own column all) marks next
    new-stands s =
        let its = h.from s.mark s.among in
        record { mark = s.mark; among = its.0; passes = and_from (eqb s.mark.column column) (is_met all s.mark) (eq-eqb s.mark.column column its.1) s.passes; stamp_is = s.stamp_is }

    not_below : (mark : Mark) → Among mark marks → is_own column all mark ≡ true → (b : Bool) → is_before stamp mark.upto ≡ b → is_before next mark.upto ≡ false
    not_below mark a e false k = not_before-through next stamp mark.upto out.not_below_first k
    not_below mark a e true k =
        let both = and_parts (eqb mark.column column) (is_met all mark) e in
        out.not_below mark (h.waits mark a (eqb-true mark.column column both.0) k) both.1

    greatest : IsGreatest (is_own column all) marks zero_stamp next
    greatest = record {
      is = ⊎_elim (λ same. ⊎_elim (λ z. inl (same ∙ z)) (λ s. inr (old-stands s same)) old.is) (λ s. inr (new-stands s)) out.is;
      not_below_first = lowest next;
      not_below = λ mark a e. not_below mark a e (is_before stamp mark.upto) refl;
    }

-- the commit is of another column
pub lane-other_commit : (column : ℕ) (commits : List Received) (r : Received) (marks waiting : List Mark) (stamp : Stamp) → LaneFits column commits marks waiting stamp
    → eqb r.column column ≡ false → LaneFits column (commits ++ r ∷ []) marks waiting stamp
lane-other_commit column commits r marks waiting stamp h other = record {
  reaches = h.reaches ∙ (λ i. fold (λ (s : Stamp) (m : Mark). same s m i) zero_stamp marks);
  waits = h.waits;
  from = h.from;
}
  where
    same-counted : (c : ℕ) (upto : Stamp) → eqb c column ≡ true → counted c upto commits ≡ counted c upto (commits ++ r ∷ [])
    same-counted c upto e =
        let is : c ≡ column = eqb-true c column e in
        let none : counted c upto (commits ++ r ∷ []) ≡ counted c upto commits + 0 =
        count-push (is_counted c upto) commits r
        ∙ ap (λ b. counted c upto commits + cond (b && is_upto upto r) 1 0) (ap (eqb r.column) is ∙ other) in
        omega (arith, none)

    by_column : (s : Stamp) (m : Mark) (b : Bool) → eqb m.column column ≡ b
        → cond (b && is_met commits m) (later_stamp s m.upto) s ≡ cond (b && is_met (commits ++ r ∷ []) m) (later_stamp s m.upto) s
    by_column s m true e = ap (λ n. cond (leb m.count n) (later_stamp s m.upto) s) (same-counted m.column m.upto e)
    by_column s m false e = refl

    same : (s : Stamp) (m : Mark) → after_mark column commits s m ≡ after_mark column (commits ++ r ∷ []) s m
    same s m = by_column s m (eqb m.column column) refl

-- ---- one mark more

pub lane-marked : (commits : List Received) (marks waiting : List Mark) (stamp : Stamp) (mark : Mark) → LaneFits mark.column commits marks waiting stamp
    → LaneFits mark.column commits (marks ++ mark ∷ []) (waiting_after commits stamp mark waiting) (after_waiting commits stamp mark)
lane-marked commits marks waiting stamp mark h = record {
  reaches =
      ap (λ s. after_waiting commits s mark) h.reaches
      ∙ sym (ap (λ b. cond (b && is_met commits mark) (later_stamp (reached mark.column commits marks) mark.upto) (reached mark.column commits marks)) (eq-eqb mark.column mark.column refl))
      ∙ sym (fold-append (after_mark mark.column commits) zero_stamp marks (mark ∷ []));
  waits = λ m a own above. waits (is_met commits mark) m own (Among-append m marks (mark ∷ []) a) above;
  from = λ m a. from (is_met commits mark) (is_before stamp mark.upto) m a;
}
  where
    old : (m : Mark) → Among m marks → m.column ≡ mark.column → is_before stamp m.upto ≡ true → (c : Bool) → Among m (cond c (waiting ++ mark ∷ []) waiting)
    old m a own above true = Among-append_left m waiting (mark ∷ []) (h.waits m a own above)
    old m a own above false = h.waits m a own above

    newest : (m : Mark) → Among m (mark ∷ []) → is_before stamp m.upto ≡ true → Among m (cond (is_before stamp mark.upto) (waiting ++ mark ∷ []) waiting)
    newest m (inr a) above = absurd a
    newest m (inl is) above =
        subst (λ c. Among m (cond c (waiting ++ mark ∷ []) waiting)) (sym (ap (λ (x : Mark). is_before stamp x.upto) is ∙ above)) (Among-append_right m waiting (mark ∷ []) (inl is))

    waits : (b : Bool) (m : Mark) → m.column ≡ mark.column → Among m marks ⊎ Among m (mark ∷ []) → is_before (cond b (later_stamp stamp mark.upto) stamp) m.upto ≡ true
        → Among m (cond b waiting (cond (is_before stamp mark.upto) (waiting ++ mark ∷ []) waiting))
    waits true m own (inl a) above = h.waits m a own (is_before-down stamp (later_stamp stamp mark.upto) m.upto (later_stamp-left stamp mark.upto) above)
    waits true m own (inr (inl is)) above =
        absurd (false≢true (sym (later_stamp-right stamp mark.upto) ∙ ap (λ (x : Mark). is_before (later_stamp stamp mark.upto) x.upto) is ∙ above))
    waits true m own (inr (inr a)) above = absurd a
    waits false m own (inl a) above = old m a own above (is_before stamp mark.upto)
    waits false m own (inr a) above = newest m a above

    old-from : (m : Mark) → Among m waiting → Among m (marks ++ mark ∷ []) × (m.column ≡ mark.column)
    old-from m a = let its = h.from m a in (Among-append_left m marks (mark ∷ []) its.0, its.1)

    from : (b c : Bool) (m : Mark) → Among m (cond b waiting (cond c (waiting ++ mark ∷ []) waiting)) → Among m (marks ++ mark ∷ []) × (m.column ≡ mark.column)
    from true c m a = old-from m a
    from false false m a = old-from m a
    from false true m a = ⊎_elim (λ b. old-from m b) (λ b. last m b) (Among-append m waiting (mark ∷ []) a)
      where
        last : (m : Mark) → Among m (mark ∷ []) → Among m (marks ++ mark ∷ []) × (m.column ≡ mark.column)
        last m (inl is) = (Among-append_right m marks (mark ∷ []) (inl is), sym (ap (λ (x : Mark). x.column) is))
        last m (inr b) = absurd b

-- the mark is of another column
pub lane-other_mark : (column : ℕ) (commits : List Received) (marks waiting : List Mark) (stamp : Stamp) (mark : Mark) → LaneFits column commits marks waiting stamp
    → eqb mark.column column ≡ false → LaneFits column commits (marks ++ mark ∷ []) waiting stamp
lane-other_mark column commits marks waiting stamp mark h other = record {
  reaches =
      h.reaches
      ∙ sym (ap (λ b. cond (b && is_met commits mark) (later_stamp (reached column commits marks) mark.upto) (reached column commits marks)) other)
      ∙ sym (fold-append (after_mark column commits) zero_stamp marks (mark ∷ []));
  waits = λ m a own above. ⊎_elim (λ b. h.waits m b own above) (λ b. absurd (no_other m b own)) (Among-append m marks (mark ∷ []) a);
  from = λ m a. let its = h.from m a in (Among-append_left m marks (mark ∷ []) its.0, its.1);
}
  where
    no_other : (m : Mark) → Among m (mark ∷ []) → m.column ≡ column → ⊥
    no_other m (inl is) own = false≢true (sym other ∙ eq-eqb mark.column column (ap (λ (x : Mark). x.column) is ∙ own))
    no_other m (inr a) own = a

-- ---- nothing received

pub lane-new : (column : ℕ) → LaneFits column [] [] [] zero_stamp
lane-new column = record { reaches = refl; waits = λ mark a own above. absurd a; from = λ mark a. absurd a }
