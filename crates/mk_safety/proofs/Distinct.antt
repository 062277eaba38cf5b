-- No two commits of a run have one stamp.
use Rattle.std.proofs.Common.{◌≡◌, ◌⊎◌, ◌<◌, ◌≤◌, ℕ, suc, ◌+◌, Bool, true, false, refl, arith, inl, inr, sym, ap, ◌∙◌, List, [], ◌∷◌, ◌++◌, Option, Some, None, subst, cond, map, length, filter}
use Rattle.std.specs.Prelude.{slice_index_or}
use Rattle.std.specs.List.{list_any}
use Rattle.mk_lists.specs.Among.{Among, AllDistinct, Among-append}
use Rattle.mk_lists.proofs.Members.{Among-from_filter, Among-from_map, Among-map}
use Rattle.mk_run_laws.proofs.LastMoments.{last_is_moment}
use Rattle.mk_txn.specs.declared.Stamp.{Stamp}
use Rattle.mk_txn.specs.declared.TxnId.{TxnId}
use Rattle.mk_txn.specs.Stamps.{is_before}
use Rattle.mk_txn.specs.Transactions.{Transaction}
use Rattle.mk_model.specs.OneCopy.{stamps_of, HaveDistinctStamps}
use Rattle.mk_words.specs.Bases.{placed_by_stamp, in_stamp_order}
use Rattle.mk_merge_laws.proofs.Orders.{by_stamp_from}
use Rattle.mk_model.specs.ColumnState.{ColumnState, AttemptState, attempt_of}
use Rattle.mk_model.specs.Logs.{not_reading}
use Rattle.mk_history.specs.Histories.{History}
use Rattle.mk_history.specs.Learning.{learned, is_learned_commit, stamped_in, stamped_by, commits}
use Rattle.mk_history.specs.Legality.{IsLegal}
use Rattle.mk_history.specs.Wholes.{first_state, last_state, column_of}
use Rattle.mk_run_laws.specs.Ends.{last_moment}
use Rattle.mk_run_laws.specs.TaughtIn.{taught_in}
use Rattle.mk_run_laws.proofs.Ending.{rounds_length, first_length}
use Rattle.mk_safety.specs.Commits.{CommitsAreDistinct}
use Rattle.mk_safety.proofs.CommitLaws.{CommitLaws}
use Rattle.mk_safety.proofs.Committed.{stamped-from, of_column, reached}
use Rattle.mk_lists.proofs.Members.{Among-map, Among-from_map, Among-from_filter}

-- ---- lists of transactions

stamp-member : (txns : List Transaction) (stamp : Stamp) → Among stamp (stamps_of txns) → (t : Transaction) × Among t txns × (t.stamp ≡ stamp)
stamp-member txns stamp a = Among-from_map (λ (t : Transaction). t.stamp) stamp txns a

member-stamp : (txns : List Transaction) (t : Transaction) → Among t txns → Among t.stamp (stamps_of txns)
member-stamp txns t a = Among-map (λ (x : Transaction). x.stamp) t txns a

-- a part of a list has no more stamps
pub distinct-filter : (p : Transaction → Bool) (txns : List Transaction) → HaveDistinctStamps txns → HaveDistinctStamps (filter p txns)
distinct-filter p [] d = d
distinct-filter p (t ∷ txns) d = by (p t) (distinct-filter p txns d.1)
  where
    out : Among t.stamp (stamps_of (filter p txns)) → ⊥
    out a =
        let f = stamp-member (filter p txns) t.stamp a in
        d.0 (subst (λ (s : Stamp). Among s (stamps_of txns)) f.2 (member-stamp txns f.0 (Among-from_filter p f.0 txns f.1).0))

    by : (b : Bool) → HaveDistinctStamps (filter p txns) → HaveDistinctStamps (cond b (t ∷ filter p txns) (filter p txns))
    by true again = (out, again)
    by false again = again

placed-from : (t : Transaction) (txns : List Transaction) (stamp : Stamp) → Among stamp (stamps_of (placed_by_stamp t txns)) → (t.stamp ≡ stamp) ⊎ Among stamp (stamps_of txns)
placed-from t [] stamp a = a
placed-from t (first ∷ rest) stamp a = by (is_before first.stamp t.stamp) (placed-from t rest stamp) a
  where
    by : (b : Bool) → (Among stamp (stamps_of (placed_by_stamp t rest)) → (t.stamp ≡ stamp) ⊎ Among stamp (stamps_of rest)) →
        Among stamp (stamps_of (cond b (first ∷ placed_by_stamp t rest) (t ∷ (first ∷ rest)))) → (t.stamp ≡ stamp) ⊎ Among stamp (stamps_of (first ∷ rest))
    by true again (inl e) = inr (inl e)
    by true again (inr m) = elim (again m) [ inl e ↦ inl e | inr n ↦ inr (inr n) ]
    by false again m = m

placed-distinct : (t : Transaction) (txns : List Transaction) → (Among t.stamp (stamps_of txns) → ⊥) → HaveDistinctStamps txns → HaveDistinctStamps (placed_by_stamp t txns)
placed-distinct t [] out d = ((λ a. a), tt)
placed-distinct t (first ∷ rest) out d = by (is_before first.stamp t.stamp) (placed-distinct t rest (λ a. out (inr a)) d.1)
  where
    apart : Among first.stamp (stamps_of (placed_by_stamp t rest)) → ⊥
    apart a = elim (placed-from t rest first.stamp a) [ inl e ↦ out (inl (sym e)) | inr m ↦ d.0 m ]

    by : (b : Bool) → HaveDistinctStamps (placed_by_stamp t rest) → HaveDistinctStamps (cond b (first ∷ placed_by_stamp t rest) (t ∷ (first ∷ rest)))
    by true again = (apart, again)
    by false again = (out, d)

ordered-distinct : (txns : List Transaction) → HaveDistinctStamps txns → HaveDistinctStamps (in_stamp_order txns)
ordered-distinct [] d = d
ordered-distinct (t ∷ txns) d = placed-distinct t (in_stamp_order txns) out (ordered-distinct txns d.1)
  where
    out : Among t.stamp (stamps_of (in_stamp_order txns)) → ⊥
    out a =
        let f = stamp-member (in_stamp_order txns) t.stamp a in
        d.0 (subst (λ (s : Stamp). Among s (stamps_of txns)) f.2 (member-stamp txns f.0 (by_stamp_from f.0 txns f.1)))

distinct-append : (xs ys : List Transaction) → HaveDistinctStamps xs → HaveDistinctStamps ys → ((x y : Transaction) → Among x xs → Among y ys → x.stamp ≡ y.stamp → ⊥) → HaveDistinctStamps (xs ++ ys)
distinct-append [] ys d e apart = e
distinct-append (x ∷ xs) ys d e apart = (out, distinct-append xs ys d.1 e (λ a b m n. apart a b (inr m) n))
  where
    out : Among x.stamp (stamps_of (xs ++ ys)) → ⊥
    out a =
        let f = stamp-member (xs ++ ys) x.stamp a in
        elim (Among-append f.0 xs ys f.1) [
          | inl m ↦ d.0 (subst (λ (s : Stamp). Among s (stamps_of xs)) f.2 (member-stamp xs f.0 m))
          | inr m ↦ apart x f.0 (inl refl) m (sym f.2)
        ]

-- ---- attempts of one column

abbrev ids_of : List AttemptState → List TxnId
ids_of attempts = map (λ (a : AttemptState). a.id) attempts

ids-kept : (attempts : List AttemptState) → ids_of (map not_reading attempts) ≡ ids_of attempts
ids-kept [] = refl
ids-kept (a ∷ attempts) = ap (λ (ids : List TxnId). a.id ∷ ids) (ids-kept attempts)

-- where no attempt stands twice and a stamp names its attempt, no stamp stands twice
in_column : (attempts : List AttemptState) → AllDistinct (ids_of attempts) →
    ((a b : AttemptState) (t u : Transaction) → Among a attempts → Among b attempts → a.txn ≡ Some t → b.txn ≡ Some u → t.stamp ≡ u.stamp → a.id ≡ b.id) →
    HaveDistinctStamps (stamped_in attempts)
in_column [] d names = tt
in_column (x ∷ attempts) d names = by x.txn refl (in_column attempts d.1 (λ a b t u m n. names a b t u (inr m) (inr n)))
  where
    out : (t : Transaction) → x.txn ≡ Some t → Among t.stamp (stamps_of (stamped_in attempts)) → ⊥
    out t k a =
        let f = stamp-member (stamped_in attempts) t.stamp a in
        let g = stamped-from attempts f.0 f.1 in
        let same = names x g.0 t f.0 (inl refl) (inr g.1) k g.2 (sym f.2) in
        d.0 (subst (λ (id : TxnId). Among id (ids_of attempts)) (sym same) (Among-map (λ (y : AttemptState). y.id) g.0 attempts g.1))

    by : (o : Option Transaction) → x.txn ≡ o → HaveDistinctStamps (stamped_in attempts) → HaveDistinctStamps (stamped_in (record x { txn = o } ∷ attempts))
    by (Some t) k again = (out t k, again)
    by None k again = again

-- ---- all columns

-- these are the run's columns from this number on
abbrev AreFrom : History → ℕ → List ColumnState → Type 0
AreFrom run number [] = Unit {0}
AreFrom run number (column ∷ columns) = (number < run.columns) × (column_of (last_state run) number ≡ column) × AreFrom run (number + 1) columns

are_from : (run : History) (d : ColumnState) (number : ℕ) (columns : List ColumnState) → number + length columns ≡ run.columns →
    ((i : ℕ) → i < length columns → column_of (last_state run) (number + i) ≡ slice_index_or columns i d) → AreFrom run number columns
are_from run d number [] long at = tt
are_from run d number (column ∷ columns) long at = (
  omega (arith, long),
  (let first = at 0 (omega arith) in subst (λ (n : ℕ). column_of (last_state run) n ≡ column) (nothing number) first),
  are_from run d (number + 1) columns (omega (arith, long))
      (λ i lt. subst (λ (n : ℕ). column_of (last_state run) n ≡ slice_index_or columns i d) (next number i) (at (suc i) (omega (arith, lt)))),
)
  where
    nothing : (n : ℕ) → n + 0 ≡ n
    nothing n = omega arith

    next : (n i : ℕ) → n + suc i ≡ (n + 1) + i
    next n i = omega arith

module _ (laws : CommitLaws) (run : History) (legal : IsLegal run) where
  -- the transactions of one column
  of_one : (c : ℕ) → c < run.columns → HaveDistinctStamps (stamped_in (column_of (last_state run) c).attempts)
  of_one c lt =
      let n = last_moment run c in
      let ends = (laws.below.ends run c lt run.rounds).attempts in
      subst (λ (attempts : List AttemptState). HaveDistinctStamps (stamped_in attempts)) (sym ends)
      (in_column (map not_reading n.column.attempts)
      (subst AllDistinct {x = ids_of n.column.attempts} (sym (ids-kept n.column.attempts)) (laws.distinct (taught_in run) (laws.below.teaching run) n (reached laws run legal c lt)))
      (names n.column.attempts (λ b m. laws.found (taught_in run) (laws.below.teaching run) n (reached laws run legal c lt) b m)))
    where
      names : (attempts : List AttemptState) → ((b : AttemptState) → Among b attempts → attempt_of (last_moment run c).column b.id ≡ Some b) → (a b : AttemptState) (t u : Transaction) →
          Among a (map not_reading attempts) → Among b (map not_reading attempts) → a.txn ≡ Some t → b.txn ≡ Some u → t.stamp ≡ u.stamp → a.id ≡ b.id
      names attempts there a b t u m n k h same =
          let f = Among-from_map not_reading a attempts m in
          let g = Among-from_map not_reading b attempts n in
          let one = laws.below.names (taught_in run) (laws.below.teaching run) (last_moment run c) (reached laws run legal c lt) (f.0).id (g.0).id f.0 g.0 t u
          (there f.0 f.1) (there g.0 g.1) (ap (λ (x : AttemptState). x.txn) f.2 ∙ k) (ap (λ (x : AttemptState). x.txn) g.2 ∙ h) same in
          sym (ap (λ (x : AttemptState). x.id) f.2) ∙ one ∙ ap (λ (x : AttemptState). x.id) g.2

  -- where a transaction of later columns stands
  later_in : (number : ℕ) (columns : List ColumnState) → AreFrom run number columns → (txn : Transaction) → Among txn (stamped_by columns) →
      (d : ℕ) × (number ≤ d) × (d < run.columns) × Among txn (stamped_in (column_of (last_state run) d).attempts)
  later_in number [] h txn m = absurd m
  later_in number (column ∷ columns) h txn m = elim (Among-append txn (stamped_in column.attempts) (stamped_by columns) m) [
    | inl here ↦ (number, omega arith, h.0, subst (λ (x : ColumnState). Among txn (stamped_in x.attempts)) (sym h.1) here)
    | inr later ↦ (let f = later_in (number + 1) columns h.2 txn later in let low = f.1 in (f.0, omega (arith, low), f.2, f.3))
  ]

  of_all : (number : ℕ) (columns : List ColumnState) → AreFrom run number columns → HaveDistinctStamps (stamped_by columns)
  of_all number [] h = tt
  of_all number (column ∷ columns) h =
      distinct-append (stamped_in column.attempts) (stamped_by columns)
      (subst (λ (x : ColumnState). HaveDistinctStamps (stamped_in x.attempts)) h.1 (of_one number h.0)) (of_all (number + 1) columns h.2)
      (λ x y m n same.
      let f = later_in (number + 1) columns h.2 y n in
      apart x y f.0 f.1 f.2 (subst (λ (z : ColumnState). Among x (stamped_in z.attempts)) (sym h.1) m) f.3 same)
    where
      apart : (x y : Transaction) (d : ℕ) → number + 1 ≤ d → d < run.columns → Among x (stamped_in (column_of (last_state run) number).attempts) →
          Among y (stamped_in (column_of (last_state run) d).attempts) → x.stamp ≡ y.stamp → ⊥
      apart x y d up lt m n same =
          let a = of_column laws run legal number h.0 x m in
          let b = of_column laws run legal d lt y n in
          let one = laws.apart run legal number d h.0 lt (last_moment run number) (last_moment run d) (last_is_moment laws.below.moments run number) (last_is_moment laws.below.moments run d)
          x.id y.id a.0 b.0 x y a.1 b.1 a.2 b.2 same in
          absurd (omega (arith, up, one))

  all_columns : AreFrom run 0 (last_state run).columns
  all_columns =
      let long = rounds_length run run.rounds (first_state run) ∙ first_length run in
      are_from run _ 0 (last_state run).columns (omega (arith, long)) (λ i lt. ap (column_of (last_state run)) (from_none i))
    where
      from_none : (i : ℕ) → 0 + i ≡ i
      from_none i = omega arith

  pub distinct_commits : HaveDistinctStamps (commits run)
  distinct_commits =
      ordered-distinct (filter (λ t. list_any (is_learned_commit t.id) (learned run)) (stamped_by (last_state run).columns))
      (distinct-filter (λ t. list_any (is_learned_commit t.id) (learned run)) (stamped_by (last_state run).columns) (of_all 0 (last_state run).columns all_columns))

pub commits_are_distinct : CommitLaws → CommitsAreDistinct
commits_are_distinct laws run legal = let d = distinct_commits laws run legal in (d, λ p. distinct-filter p (commits run) d)
