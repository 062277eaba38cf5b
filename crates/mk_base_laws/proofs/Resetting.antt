-- What is left of records where replicas were emptied, and entries in lists of lists.
use Rattle.std.proofs.Common.{◌≡◌, ◌⊎◌, ℕ, zero, suc, Bool, true, false, refl, arith, inl, inr, sym, ap, ◌∙◌, List, [], ◌∷◌, ◌++◌, Option, Some, None, subst, cond, ◌||◌, map, get_or-set_other}
use Rattle.std.specs.Prelude.{slice_index_or, slice_set, find, flat_map, ◌==◌}
use Rattle.std.proofs.lemmas.Bool.Decides.{nat_tests}
use Rattle.std.proofs.lemmas.Bool.{cases_eq}
use Rattle.mk_lists.specs.Among.{Among}
use Rattle.mk_lists.proofs.Lookups.{find-append_none, find-append_some}
use Rattle.mk_column_laws.proofs.Resets.{reset_attempts}
use Rattle.mk_txn.specs.declared.TxnId.{TxnId}
use Rattle.mk_txn.specs.Transactions.{same_id}
use Rattle.mk_txn.proofs.IdOrder.{same_id-tells, same_id-itself}
use Rattle.mk_words.specs.declared.Entry.{Entry}
use Rattle.mk_words.specs.Entries.{entry_of, HasDistinctIds}
use Rattle.mk_model.specs.ColumnState.{ColumnState, AttemptState, attempt_of, is_attempt, entries_at, marks_at}
use Rattle.mk_model.specs.Logs.{replica_reset}
use Rattle.mk_column_laws.specs.Moments.{has_number, replicas_reset}

emptied_place : {X : Type 0} (lists : List (List X)) (r : ℕ) → slice_index_or (slice_set lists r []) r [] ≡ []
emptied_place [] zero = refl
emptied_place [] (suc r) = refl
emptied_place (l ∷ lists) zero = refl
emptied_place (l ∷ lists) (suc r) = emptied_place lists r

pub is_number : (q r : ℕ) → has_number (q ∷ []) r ≡ true → q ≡ r
is_number q r e = grind (arith, nat_tests, e)

pub number_is : (r : ℕ) → has_number (r ∷ []) r ≡ true
number_is r = grind (arith, nat_tests)

pub no_number : (one other : List ℕ) (r : ℕ) → has_number one r ≡ false → has_number other r ≡ false → has_number (one ++ other) r ≡ false
no_number [] other r e f = f
no_number (q ∷ one) other r e f = by (q == r) e (λ k. no_number one other r k f)
  where
    by : (b : Bool) → (b || has_number one r) ≡ false → (has_number one r ≡ false → has_number (one ++ other) r ≡ false) → (b || has_number (one ++ other) r) ≡ false
    by true e again = absurd (cc e)
    by false e again = again e

-- a record where replicas were emptied: its replica was not, or it has nothing
abbrev pub AfterReset : List ℕ → ColumnState → ℕ → Type 0
AfterReset resets column r =
    ((has_number resets r ≡ false) × (entries_at (replicas_reset resets column) r ≡ entries_at column r))
    ⊎ ((has_number resets r ≡ true) × (entries_at (replicas_reset resets column) r ≡ []))

pub after_reset : (resets : List ℕ) (column : ColumnState) (r : ℕ) → AfterReset resets column r
after_reset [] column r = inl (refl, refl)
after_reset (q ∷ resets) column r = by (after_reset resets (replica_reset q column) r) (cases_eq r q)
  where
    first : r ≡ q → has_number (q ∷ resets) r ≡ true
    first e = grind (arith, nat_tests, e)

    later : has_number resets r ≡ true → has_number (q ∷ resets) r ≡ true
    later e = grind (arith, e)

    neither : (r ≡ q → ⊥) → has_number resets r ≡ false → has_number (q ∷ resets) r ≡ false
    neither ne e = apart (q == r) refl
      where
        apart : (b : Bool) → (q == r) ≡ b → (b || has_number resets r) ≡ false
        apart true k = absurd (ne (grind (arith, nat_tests, k)))
        apart false k = e

    empty : r ≡ q → entries_at (replica_reset q column) r ≡ []
    empty e = subst (λ (n : ℕ). slice_index_or (slice_set column.records q []) n [] ≡ []) (sym e) (emptied_place column.records q)

    by : AfterReset resets (replica_reset q column) r → (r ≡ q) ⊎ (r ≡ q → ⊥) → AfterReset (q ∷ resets) column r
    by (inl k) (inl e) = inr (first e, k.1 ∙ empty e)
    by (inl k) (inr ne) = inl (neither ne k.0, k.1 ∙ get_or-set_other column.records q r [] [] ne)
    by (inr k) here = inr (later k.0, k.1)

-- an entry that is there was there
pub before_reset : (resets : List ℕ) (column : ColumnState) (r : ℕ) (id : TxnId) (entry : Entry) → entry_of id (entries_at (replicas_reset resets column) r) ≡ Some entry →
    (has_number resets r ≡ false) × (entry_of id (entries_at column r) ≡ Some entry)
before_reset resets column r id entry there = elim (after_reset resets column r) [
  | inl k ↦ (k.0, ap (entry_of id) (sym k.1) ∙ there)
  | inr k ↦ absurd (nothing (sym there ∙ ap (entry_of id) k.1))
]
  where
    nothing : ◌≡◌ {A = Option Entry} (Some entry) None → ⊥
    nothing e = cc e

-- marks where replicas were emptied
pub marks_reset : (resets : List ℕ) (column : ColumnState) (r : ℕ) → (marks_at (replicas_reset resets column) r ≡ marks_at column r) ⊎ (marks_at (replicas_reset resets column) r ≡ [])
marks_reset [] column r = inl refl
marks_reset (q ∷ resets) column r = by (marks_reset resets (replica_reset q column) r) (cases_eq r q)
  where
    empty : r ≡ q → marks_at (replica_reset q column) r ≡ []
    empty e = subst (λ (n : ℕ). slice_index_or (slice_set column.marks q []) n [] ≡ []) (sym e) (emptied_place column.marks q)

    by : (marks_at (replicas_reset resets (replica_reset q column)) r ≡ marks_at (replica_reset q column) r) ⊎ (marks_at (replicas_reset resets (replica_reset q column)) r ≡ []) →
        (r ≡ q) ⊎ (r ≡ q → ⊥) → (marks_at (replicas_reset (q ∷ resets) column) r ≡ marks_at column r) ⊎ (marks_at (replicas_reset (q ∷ resets) column) r ≡ [])
    by (inl k) (inl e) = inr (k ∙ empty e)
    by (inl k) (inr ne) = inl (k ∙ get_or-set_other column.marks q r [] [] ne)
    by (inr k) here = inr k

pub attempt_reset : (resets : List ℕ) (column : ColumnState) (id : TxnId) → attempt_of (replicas_reset resets column) id ≡ attempt_of column id
attempt_reset resets column id = ap (λ (l : List AttemptState). find (is_attempt id) l) (reset_attempts resets column)

-- ---- lists of lists

module _ {X Y : Type 0} (p : Y → Bool) (f : X → List Y) where
  find-nowhere : (xs : List X) → ((x : X) → Among x xs → find p (f x) ≡ None) → find p (flat_map f xs) ≡ None
  find-nowhere [] h = refl
  find-nowhere (x ∷ xs) h = find-append_none p (f x) (flat_map f xs) (h x (inl refl)) ∙ find-nowhere xs (λ y a. h y (inr a))

  -- where no other list has it, it is found where that one has it
  pub find-one : (xs : List X) (x : X) → Among x xs → ((y : X) → Among y xs → (find p (f y) ≡ None) ⊎ (y ≡ x)) → find p (flat_map f xs) ≡ find p (f x)
  find-one xs x a only = by (find p (f x)) refl
    where
      found : (z : Y) → find p (f x) ≡ Some z → (ys : List X) → Among x ys → ((y : X) → Among y ys → (find p (f y) ≡ None) ⊎ (y ≡ x)) → find p (flat_map f ys) ≡ Some z
      found z e [] a only = absurd a
      found z e (y ∷ ys) a only = elim (only y (inl refl)) [
        | inr same ↦ find-append_some p (f y) (flat_map f ys) z (ap (λ (w : X). find p (f w)) same ∙ e)
        | inl none ↦ elim a [
          | inl same ↦ absurd (cc (sym none ∙ ap (λ (w : X). find p (f w)) same ∙ e))
          | inr later ↦ find-append_none p (f y) (flat_map f ys) none ∙ found z e ys later (λ w b. only w (inr b))
        ]
      ]

      by : (o : Option Y) → find p (f x) ≡ o → find p (flat_map f xs) ≡ find p (f x)
      by None e = find-nowhere xs (λ y b. elim (only y b) [ inl none ↦ none | inr same ↦ ap (λ (w : X). find p (f w)) same ∙ e ]) ∙ sym e
      by (Some z) e = found z e xs a only ∙ sym e

-- ---- members of records

id_among : (entry : Entry) (entries : List Entry) → Among entry entries → Among entry.txn.id (map (λ (e : Entry). e.txn.id) entries)
id_among entry [] a = absurd a
id_among entry (x ∷ entries) (inl e) = inl (ap (λ (y : Entry). y.txn.id) e)
id_among entry (x ∷ entries) (inr a) = inr (id_among entry entries a)

-- of different attempts a member is the one that is found
pub member_found : (entries : List Entry) → HasDistinctIds entries → (entry : Entry) → Among entry entries → entry_of entry.txn.id entries ≡ Some entry
member_found [] d entry a = absurd a
member_found (x ∷ entries) d entry (inl e) = ap (λ (b : Bool). cond b (Some x) (entry_of entry.txn.id entries)) (ap (λ (y : Entry). same_id x.txn.id y.txn.id) (sym e) ∙ same_id-itself x.txn.id) ∙ ap Some e
member_found (x ∷ entries) d entry (inr a) = by (member_found entries d.1 entry a) (same_id x.txn.id entry.txn.id) refl
  where
    by : entry_of entry.txn.id entries ≡ Some entry → (b : Bool) → same_id x.txn.id entry.txn.id ≡ b → cond b (Some x) (entry_of entry.txn.id entries) ≡ Some entry
    by again true k = absurd (d.0 (subst (λ (i : TxnId). Among i (map (λ (e : Entry). e.txn.id) entries)) (sym (same_id-tells x.txn.id entry.txn.id k)) (id_among entry entries a)))
    by again false k = again
