-- Candidates taken in turn: who is taken conflicts with no commit, and who is not conflicts with one.
use Rattle.std.proofs.Common.{◌≡◌, ◌⊎◌, Bool, true, false, refl, inl, inr, sym, ◌∙◌, List, [], ◌∷◌, ◌++◌, subst, cond}
use Rattle.std.specs.List.{list_any}
use Rattle.std.proofs.Math.Bool.{or_comm}
use Rattle.mk_lists.specs.Among.{Among, Among-append, Among-append_left, Among-append_right}
use Rattle.mk_lists.proofs.Tests.{Among-from_list_any, list_any-from_Among}
use Rattle.mk_txn.specs.Clashes.{conflict, clashes}
use Rattle.mk_txn.specs.Transactions.{Transaction}
use Rattle.mk_words.specs.Merging.{taken}
use Rattle.mk_merge_laws.specs.Composition.{ConflictIsMutual}

pub conflict_is_mutual : ConflictIsMutual
conflict_is_mutual a b = or_comm (clashes a b) (clashes b a)

-- what was taken so far stays
pub taken_stays : (t : Transaction) (commits candidates : List Transaction) → Among t commits → Among t (taken commits candidates)
taken_stays t commits [] a = a
taken_stays t commits (txn ∷ rest) a =
    either_way (list_any (conflict txn) commits) (taken_stays t commits rest a) (taken_stays t (commits ++ txn ∷ []) rest (Among-append_left t commits (txn ∷ []) a))
  where
    either_way : (b : Bool) → Among t (taken commits rest) → Among t (taken (commits ++ txn ∷ []) rest) → Among t (taken (cond b commits (commits ++ txn ∷ [])) rest)
    either_way true h k = h
    either_way false h k = k

-- what is taken was taken so far or is a candidate
pub taken_from : (t : Transaction) (commits candidates : List Transaction) → Among t (taken commits candidates) → Among t commits ⊎ Among t candidates
taken_from t commits [] a = inl a
taken_from t commits (txn ∷ rest) a = by (λ xs. taken_from t xs rest) (list_any (conflict txn) commits) a
  where
    by : ((xs : List Transaction) → Among t (taken xs rest) → Among t xs ⊎ Among t rest) → (b : Bool) → Among t (taken (cond b commits (commits ++ txn ∷ [])) rest) → Among t commits ⊎ Among t (txn ∷ rest)
    by again true a = elim (again commits a) [ inl c ↦ inl c | inr d ↦ inr (inr d) ]
    by again false a = elim (again (commits ++ txn ∷ []) a) [
      | inl c ↦ elim (Among-append t commits (txn ∷ []) c) [ inl old ↦ inl old | inr new ↦ elim new [ inl e ↦ inr (inl e) | inr none ↦ absurd none ] ]
      | inr d ↦ inr (inr d)
    ]

-- a candidate is taken, or conflicts with one that is
pub taken_or_conflicts : (t : Transaction) (commits candidates : List Transaction) → Among t candidates →
    Among t (taken commits candidates) ⊎ ((c : Transaction) × Among c (taken commits candidates) × (conflict t c ≡ true))
taken_or_conflicts t commits [] a = absurd a
taken_or_conflicts t commits (txn ∷ rest) a = by (λ xs. taken_or_conflicts t xs rest) (list_any (conflict txn) commits) refl a
  where
    by : ((xs : List Transaction) → Among t rest → Among t (taken xs rest) ⊎ ((c : Transaction) × Among c (taken xs rest) × (conflict t c ≡ true))) → (b : Bool) → list_any (conflict txn) commits ≡ b → Among t (txn ∷ rest) →
        Among t (taken (cond b commits (commits ++ txn ∷ [])) rest) ⊎ ((c : Transaction) × Among c (taken (cond b commits (commits ++ txn ∷ [])) rest) × (conflict t c ≡ true))
    by again true e (inl same) =
        let c = Among-from_list_any (conflict txn) commits e in
        inr (c.0, taken_stays c.0 commits rest c.1, subst (λ (x : Transaction). conflict x c.0 ≡ true) same c.2)
    by again false e (inl same) = inl (taken_stays t (commits ++ txn ∷ []) rest (Among-append_right t commits (txn ∷ []) (inl same)))
    by again true e (inr b) = again commits b
    by again false e (inr b) = again (commits ++ txn ∷ []) b

-- those with R conflict with no other of the list
abbrev pub Fit : (Transaction → Type 0) → List Transaction → Type 0
Fit R commits = (t u : Transaction) → Among t commits → Among u commits → R t → (t ≡ u → ⊥) → conflict t u ≡ false

none_conflicts : (p : Transaction → Bool) (commits : List Transaction) → list_any p commits ≡ false → (u : Transaction) → Among u commits → p u ≡ false
none_conflicts p commits e u a = by (p u) refl
  where
    by : (b : Bool) → p u ≡ b → b ≡ false
    by false k = refl
    by true k = absurd (cc (sym e ∙ list_any-from_Among p commits u a k))

fit_more : (R : Transaction → Type 0) (txn : Transaction) (commits : List Transaction) → Fit R commits → list_any (conflict txn) commits ≡ false → Fit R (commits ++ txn ∷ [])
fit_more R txn commits fit e t u a b r apart = by (Among-append t commits (txn ∷ []) a) (Among-append u commits (txn ∷ []) b)
  where
    by : Among t commits ⊎ Among t (txn ∷ []) → Among u commits ⊎ Among u (txn ∷ []) → conflict t u ≡ false
    by (inl p) (inl q) = fit t u p q r apart
    by (inl p) (inr (inl same)) = subst (λ (x : Transaction). conflict t x ≡ false) same (conflict_is_mutual t txn ∙ none_conflicts (conflict txn) commits e t p)
    by (inl p) (inr (inr none)) = absurd none
    by (inr (inl same)) (inl q) = subst (λ (x : Transaction). conflict x u ≡ false) same (none_conflicts (conflict txn) commits e u q)
    by (inr (inl same)) (inr (inl other)) = absurd (apart (sym same ∙ other))
    by (inr (inl same)) (inr (inr none)) = absurd none
    by (inr (inr none)) q = absurd none

pub taken_fit : (R : Transaction → Type 0) (commits candidates : List Transaction) → Fit R commits → Fit R (taken commits candidates)
taken_fit R commits [] fit = fit
taken_fit R commits (txn ∷ rest) fit = by (λ xs. taken_fit R xs rest) (list_any (conflict txn) commits) refl
  where
    by : ((xs : List Transaction) → Fit R xs → Fit R (taken xs rest)) → (b : Bool) → list_any (conflict txn) commits ≡ b → Fit R (taken (cond b commits (commits ++ txn ∷ [])) rest)
    by again true e = again commits fit
    by again false e = again (commits ++ txn ∷ []) (fit_more R txn commits fit e)
