-- The copy before a transaction is that of the commits below its stamp, and no read is unexplained exactly where all are explained.
use Rattle.std.proofs.Common.{◌≡◌, ◌⊎◌, ℕ, Bool, true, false, refl, sym, ap, subst, ◌∙◌, inl, inr, List, [], ◌∷◌, ◌++◌, ◌&&◌, not, Option, Some, None, find, filter, append_assoc, if◌then◌else◌, IsNone, ◌↔◌}
use Rattle.std.proofs.lemmas.Bool.{and_parts}
use Rattle.std.specs.Option.{option_map}
use Rattle.mk_lists.specs.Among.{Among}
use Rattle.mk_txn.specs.declared.TxnId.{TxnId}
use Rattle.mk_txn.specs.declared.ReadItem.{ReadItem}
use Rattle.mk_txn.specs.Stamps.{is_before, same_stamp}
use Rattle.mk_txn.specs.Transactions.{Transaction, same_value}
use Rattle.mk_txn.proofs.StampOrder.{same_stamp-tells, same_stamp-itself}
use Rattle.mk_txn.proofs.ValueFacts.{same_value-tells, same_value-itself}
use Rattle.mk_replay.specs.declared.reads.Unexplained.{Unexplained}
use Rattle.mk_words.specs.Bases.{in_stamp_order}
use Rattle.mk_words.proofs.StampOrdering.{IsInStampOrder, ordered-in_order, ordered-from, ordered-there, filter-ordered, filter-before}
use Rattle.mk_model.specs.OneCopy.{Copy, version_in, with_writes, replayed, one_copy, HaveDistinctStamps}
use Rattle.mk_model.specs.Explained.{commits_below, IsExplained, holds_read, first_unlike}
use Rattle.mk_replay.specs.Explained.{unexplained_at, first_unexplained, unexplained_read}

-- the commits below a stamp leave what those before it in order of stamp leave
pub one_copy-below : (commits done : List Transaction) (txn : Transaction) (rest : List Transaction) → HaveDistinctStamps commits →
    done ++ txn ∷ rest ≡ in_stamp_order commits → one_copy (commits_below txn.stamp commits) ≡ replayed [] done
one_copy-below commits done txn rest distinct is =
    let below : Transaction → Bool = λ other. is_before other.stamp txn.stamp in
    ap (replayed []) (
    sym (filter-ordered below commits distinct)
    ∙ ap (filter below) (sym is)
    ∙ filter-before done txn rest (subst IsInStampOrder (sym is) (ordered-in_order commits distinct))
    )

pub replayed-append : (copy : Copy) (done : List Transaction) (txn : Transaction) → replayed copy (done ++ txn ∷ []) ≡ replayed (replayed copy done) (txn ∷ [])
replayed-append copy [] txn = refl
replayed-append copy (first ∷ done) txn = replayed-append (replayed copy (first ∷ [])) done txn

-- ---- one read

holds_read-tells : (copy : Copy) (item : ReadItem) → holds_read copy item ≡ true →
    (item.version ≡ (version_in copy item.key).version) × (item.value ≡ (version_in copy item.key).value)
holds_read-tells copy item e =
    let both = and_parts (same_stamp item.version (version_in copy item.key).version) (same_value item.value (version_in copy item.key).value) e in
    (same_stamp-tells item.version (version_in copy item.key).version both.0, same_value-tells item.value (version_in copy item.key).value both.1)

holds_read-from_same : (copy : Copy) (item : ReadItem) → item.version ≡ (version_in copy item.key).version →
    item.value ≡ (version_in copy item.key).value → holds_read copy item ≡ true
holds_read-from_same copy item e f =
    ap (λ s. same_stamp s (version_in copy item.key).version && same_value item.value (version_in copy item.key).value) e
    ∙ ap (λ v. same_stamp (version_in copy item.key).version (version_in copy item.key).version && same_value v (version_in copy item.key).value) f
    ∙ ap (λ b. b && same_value (version_in copy item.key).value (version_in copy item.key).value) (same_stamp-itself (version_in copy item.key).version)
    ∙ same_value-itself (version_in copy item.key).value

-- ---- the reads of one transaction

each_held : (copy : Copy) (items : List ReadItem) → first_unlike copy items ≡ None → (item : ReadItem) → Among item items → holds_read copy item ≡ true
each_held copy [] e item a = absurd a
each_held copy (first ∷ rest) e item a = by_test (each_held copy rest) (holds_read copy first) refl e a
  where
    by_test : (first_unlike copy rest ≡ None → (item : ReadItem) → Among item rest → holds_read copy item ≡ true) → (b : Bool) →
        holds_read copy first ≡ b → option_map (λ read. read.key) (if not b then Some first else find (λ read. not (holds_read copy read)) rest) ≡ None →
        (first ≡ item) ⊎ Among item rest → holds_read copy item ≡ true
    by_test more true f e (inl same) = subst (λ read. holds_read copy read ≡ true) same f
    by_test more true f e (inr a) = more e item a
    by_test more false f e a = absurd (cc e)

none_unlike : (copy : Copy) (items : List ReadItem) → ((item : ReadItem) → Among item items → holds_read copy item ≡ true) → first_unlike copy items ≡ None
none_unlike copy [] h = refl
none_unlike copy (first ∷ rest) h =
    ap (λ b. option_map (λ read. read.key) (if not b then Some first else find (λ read. not (holds_read copy read)) rest)) (h first (inl refl))
    ∙ none_unlike copy rest (λ item a. h item (inr a))

-- ---- all transactions

unexplained_at-none : (id : TxnId) (key : Option ℕ) (next : Option Unexplained) → unexplained_at id key next ≡ None → (key ≡ None) × (next ≡ None)
unexplained_at-none id None next e = (refl, e)
unexplained_at-none id (Some key) next e = absurd (cc e)

each_explained : (commits txns : List Transaction) → first_unexplained commits txns ≡ None → (txn : Transaction) → Among txn txns →
    first_unlike (one_copy (commits_below txn.stamp commits)) txn.reads ≡ None
each_explained commits [] e txn a = absurd a
each_explained commits (first ∷ rest) e txn a =
    let both = unexplained_at-none first.id (first_unlike (one_copy (commits_below first.stamp commits)) first.reads) (first_unexplained commits rest) e in
    elim a [ inl same ↦ subst (λ (t : Transaction). first_unlike (one_copy (commits_below t.stamp commits)) t.reads ≡ None) same both.0 | inr b ↦ each_explained commits rest both.1 txn b ]

none_unexplained : (commits txns : List Transaction) →
    ((txn : Transaction) → Among txn txns → first_unlike (one_copy (commits_below txn.stamp commits)) txn.reads ≡ None) →
    first_unexplained commits txns ≡ None
none_unexplained commits [] h = refl
none_unexplained commits (first ∷ rest) h =
    ap (λ key. unexplained_at first.id key (first_unexplained commits rest)) (h first (inl refl))
    ∙ none_unexplained commits rest (λ txn a. h txn (inr a))

-- where no read is unexplained, all are explained
pub IsExplained-from_none : (commits : List Transaction) → unexplained_read commits ≡ None → IsExplained commits
IsExplained-from_none commits e =
    let held : (txn : Transaction) → Among txn commits → (item : ReadItem) → Among item txn.reads → holds_read (one_copy (commits_below txn.stamp commits)) item ≡ true = λ txn a item b.
    each_held (one_copy (commits_below txn.stamp commits)) txn.reads
    (each_explained commits (in_stamp_order commits) e txn (ordered-there txn commits a)) item b in
    record {
      versions = λ txn a item b. (holds_read-tells (one_copy (commits_below txn.stamp commits)) item (held txn a item b)).0;
      values = λ txn a item b. (holds_read-tells (one_copy (commits_below txn.stamp commits)) item (held txn a item b)).1;
    }

-- where all are explained, none is unexplained
pub none-from_IsExplained : (commits : List Transaction) → IsExplained commits → unexplained_read commits ≡ None
none-from_IsExplained commits h =
    none_unexplained commits (in_stamp_order commits) (λ txn a.
    let b : Among txn commits = ordered-from txn commits a in
    none_unlike (one_copy (commits_below txn.stamp commits)) txn.reads
    (λ item d. holds_read-from_same (one_copy (commits_below txn.stamp commits)) item (h.versions txn b item d) (h.values txn b item d)))

-- ---- one transaction at a time

-- the copy is what those done leave, and none of their reads is unexplained
abbrev pub ExplainsDone : List Transaction → Copy → List Transaction → Type 0
ExplainsDone commits copy left =
    (done : List Transaction)
    × (done ++ left ≡ in_stamp_order commits)
    × (copy ≡ replayed [] done)
    × (first_unexplained commits left ≡ unexplained_read commits)

-- what is unexplained from a transaction on is what the copy does not hold of its reads, or comes later
unexplained_from : (commits : List Transaction) (copy : Copy) (txn : Transaction) (rest : List Transaction) → HaveDistinctStamps commits →
    ExplainsDone commits copy (txn ∷ rest) → unexplained_at txn.id (first_unlike copy txn.reads) (first_unexplained commits rest) ≡ unexplained_read commits
unexplained_from commits copy txn rest distinct h =
    ap (λ c. unexplained_at txn.id (first_unlike c txn.reads) (first_unexplained commits rest))
    (h.2 ∙ sym (one_copy-below commits h.0 txn rest distinct h.1)) ∙ h.3

pub unexplained_here : (commits : List Transaction) (copy : Copy) (left : List Transaction) (txn : Transaction) (rest : List Transaction) (key : ℕ) →
    HaveDistinctStamps commits → left ≡ txn ∷ rest → ExplainsDone commits copy left → Some key ≡ first_unlike copy txn.reads →
    Some (record { id = txn.id; key = key }) ≡ unexplained_read commits
unexplained_here commits copy left txn rest key distinct is h found =
    ap (λ k. unexplained_at txn.id k (first_unexplained commits rest)) found
    ∙ unexplained_from commits copy txn rest distinct (subst (ExplainsDone commits copy) is h)

pub ExplainsDone-next : (commits : List Transaction) (copy next : Copy) (left : List Transaction) (txn : Transaction) (rest : List Transaction) →
    HaveDistinctStamps commits → left ≡ txn ∷ rest → ExplainsDone commits copy left → None ≡ first_unlike copy txn.reads →
    next ≡ with_writes txn.stamp txn.writes copy → ExplainsDone commits next rest
ExplainsDone-next commits copy next left txn rest distinct is h found written =
    let k : ExplainsDone commits copy (txn ∷ rest) = subst (ExplainsDone commits copy) is h in (
      k.0 ++ txn ∷ [],
      append_assoc k.0 (txn ∷ []) rest ∙ k.1,
      written ∙ ap (with_writes txn.stamp txn.writes) k.2 ∙ sym (replayed-append [] k.0 txn),
      ap (λ key. unexplained_at txn.id key (first_unexplained commits rest)) found ∙ unexplained_from commits copy txn rest distinct k,
    )

-- the first unexplained read is none exactly where all are explained
pub IsNone-iff_explained : (commits : List Transaction) (first : Option Unexplained) → first ≡ unexplained_read commits → IsNone first ↔ IsExplained commits
IsNone-iff_explained commits None e = (λ none. IsExplained-from_none commits (sym e), λ explained. refl)
IsNone-iff_explained commits (Some read) e = (λ none. absurd (cc none), λ explained. absurd (clash (e ∙ none-from_IsExplained commits explained)))
  where
    clash : Some read ≡ None → ⊥
    clash f = absurd (cc f)
