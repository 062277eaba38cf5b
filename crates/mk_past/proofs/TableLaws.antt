-- A table from stamps to lines: its entries are the transactions of the lines, in order of stamp.
use Rattle.std.proofs.Common.{◌≡◌, ◌∙◌, ◌<◌, ◌+◌, ℕ, zero, suc, Bool, true, false, refl, sym, ap, subst, inl, inr, List, [], ◌∷◌, ◌++◌, length, get_or, drop, Some, append_assoc, if◌then◌else◌, Ordering, Less, Equal, Greater}
use Rattle.std.proofs.lemmas.Bool.{false≢true}
use Rattle.std.proofs.lemmas.List.{append-nil}
use Rattle.std.specs.Ordering.{is_lt, is_eq, match_ordering}
use Rattle.std.specs.BTreeMap.{insert_entry}
use Rattle.std.specs.Borrow.{Bor}
use Rattle.mk_lists.specs.Among.{Among}
use Rattle.mk_txn.specs.declared.Stamp.{Stamp}
use Rattle.mk_txn.specs.declared.WriteItem.{WriteItem}
use Rattle.mk_txn.specs.Stamps.{is_before, same_stamp, stamp_cmp}
use Rattle.mk_txn.specs.Transactions.{Transaction}
use Rattle.mk_txn.proofs.StampOrder.{is_before-not_back, same_stamp-tells, same_stamp-itself, stamp_cmp-less, stamp_cmp-equal, same-from_neither}
use Rattle.mk_words.specs.Bases.{placed_by_stamp, in_stamp_order}
use Rattle.mk_words.proofs.StampOrdering.{stamps_in, ordered-stamp}
use Rattle.mk_model.specs.OneCopy.{HaveDistinctStamps}
use Rattle.mk_history.specs.Histories.{History}
use Rattle.mk_history.specs.Learning.{commits}
use Rattle.mk_run.specs.declared.line.AttemptLine.{AttemptLine}
use Rattle.mk_run.specs.Attempts.{is_committed, outcomes_of}
use Rattle.mk_report.specs.Commits.{told_txn, commit_in, commits_in}
use Rattle.mk_past.specs.Indexes.{PastView, IsIndexOf, IsPastOf}
use Rattle.mk_past.specs.Orders.{told_at, txns_told}
use Rattle.mk_past.proofs.IndexLaws.{drop-at}

abbrev pub Table : Type 0
Table = List (Stamp × Bor AttemptLine)

before_from_less : (a b : Stamp) → stamp_cmp a b ≡ Less → is_before a b ≡ true
before_from_less a b e = sym (stamp_cmp-less a b) ∙ ap is_lt e

before_from_greater : (a b : Stamp) → stamp_cmp a b ≡ Greater → is_before b a ≡ true
before_from_greater a b e = by_test (is_before b a) refl
  where
    not_less : is_before a b ≡ false
    not_less = sym (stamp_cmp-less a b) ∙ ap is_lt e

    not_equal : same_stamp a b ≡ false
    not_equal = sym (stamp_cmp-equal a b) ∙ ap is_eq e

    by_test : (t : Bool) → is_before b a ≡ t → is_before b a ≡ true
    by_test true h = h
    by_test false h = absurd (false≢true (sym not_equal ∙ subst (λ x. same_stamp a x ≡ true) (same-from_neither a b not_less h) (same_stamp-itself a)))

same_from_equal : (a b : Stamp) → stamp_cmp a b ≡ Equal → a ≡ b
same_from_equal a b e = same_stamp-tells a b (sym (stamp_cmp-equal a b) ∙ ap is_eq e)

inserted : (entries : Table) (stamp : Stamp) (line : Bor AttemptLine) → (Among stamp (stamps_in (txns_told entries)) → ⊥) →
    txns_told (insert_entry stamp_cmp entries stamp line) ≡ placed_by_stamp (told_at (stamp, line)) (txns_told entries)
inserted [] stamp line new = refl
inserted (first ∷ rest) stamp line new = by_order (inserted rest stamp line (λ a. new (inr a))) (stamp_cmp stamp first.0) refl
  where
    by_order : txns_told (insert_entry stamp_cmp rest stamp line) ≡ placed_by_stamp (told_at (stamp, line)) (txns_told rest) → (o : Ordering) → stamp_cmp stamp first.0 ≡ o →
        txns_told (match_ordering o ((stamp, line) ∷ first ∷ rest) ((first.0, line) ∷ rest) (first ∷ insert_entry stamp_cmp rest stamp line))
        ≡ (if is_before first.0 stamp then told_at first ∷ placed_by_stamp (told_at (stamp, line)) (txns_told rest) else told_at (stamp, line) ∷ (told_at first ∷ txns_told rest))
    by_order more Less e =
        sym (ap (λ b. if b then told_at first ∷ placed_by_stamp (told_at (stamp, line)) (txns_told rest) else told_at (stamp, line) ∷ (told_at first ∷ txns_told rest)) (is_before-not_back stamp first.0 (before_from_less stamp first.0 e)))
    by_order more Equal e = absurd (new (inl (sym (same_from_equal stamp first.0 e))))
    by_order more Greater e =
        ap (λ ys. told_at first ∷ ys) more
        ∙ sym (ap (λ b. if b then told_at first ∷ placed_by_stamp (told_at (stamp, line)) (txns_told rest) else told_at (stamp, line) ∷ (told_at first ∷ txns_told rest)) (before_from_greater stamp first.0 e))

-- a line that says commit is put at its stamp
pub put-there : (old new : Table) (stamp : Stamp) (line : Bor AttemptLine) (txns : List Transaction) → line.now.stamp ≡ Some stamp → is_committed line.now.state ≡ true →
    new ≡ insert_entry stamp_cmp old stamp line → HaveDistinctStamps (commit_in line.now ++ txns) → txns_told old ≡ in_stamp_order txns →
    txns_told new ≡ in_stamp_order (commit_in line.now ++ txns)
put-there old new stamp line txns is says made distinct ordered =
    let told : commit_in line.now ≡ told_at (stamp, line) ∷ [] = ap (λ (b : Bool). if b then told_txn line.now line.now.stamp else []) says ∙ ap (told_txn line.now) is in
    let apart = subst (λ (ts : List Transaction). HaveDistinctStamps (ts ++ txns)) told distinct in
    let fresh : Among stamp (stamps_in (txns_told old)) → ⊥ = λ a. apart.0 (ordered-stamp stamp txns (subst (λ (ts : List Transaction). Among stamp (stamps_in ts)) ordered a)) in
    ap txns_told made
    ∙ inserted old stamp line fresh
    ∙ ap (placed_by_stamp (told_at (stamp, line))) ordered
    ∙ sym (ap (λ (ts : List Transaction). in_stamp_order (ts ++ txns)) told)

-- ---- the lines of a list, the last first

distinct-right : (xs ys : List Transaction) → HaveDistinctStamps (xs ++ ys) → HaveDistinctStamps ys
distinct-right [] ys d = d
distinct-right (x ∷ xs) ys d = distinct-right xs ys d.1

dropped-distinct : (lines : List AttemptLine) (i : ℕ) → HaveDistinctStamps (commits_in lines) → HaveDistinctStamps (commits_in (drop i lines))
dropped-distinct lines zero d = d
dropped-distinct [] (suc i) d = d
dropped-distinct (line ∷ lines) (suc i) d = dropped-distinct lines i (distinct-right (commit_in line) (commits_in lines) d)

pub table-next : (lines : List AttemptLine) (left before : ℕ) (line : AttemptLine) (old new : Table) → HaveDistinctStamps (commits_in lines) → left ≡ before + 1 → before < length lines → line ≡ get_or lines before line →
    ((txns : List Transaction) → HaveDistinctStamps (commit_in line ++ txns) → txns_told old ≡ in_stamp_order txns → txns_told new ≡ in_stamp_order (commit_in line ++ txns)) →
    txns_told old ≡ in_stamp_order (commits_in (drop left lines)) → txns_told new ≡ in_stamp_order (commits_in (drop before lines))
table-next lines left before line old new distinct is within at put h =
    let split : drop before lines ≡ line ∷ drop (before + 1) lines = drop-at lines before line within at in
    let apart = subst (λ (ls : List AttemptLine). HaveDistinctStamps (commits_in ls)) split (dropped-distinct lines before distinct) in
    put (commits_in (drop (before + 1) lines)) apart (h ∙ ap (λ k. in_stamp_order (commits_in (drop k lines))) is)
    ∙ sym (ap (λ (ls : List AttemptLine). in_stamp_order (commits_in ls)) split)

-- ---- the entries of a table, in order

-- the index has some of all transactions, and those that are left follow them
abbrev pub IsIndexedSoFar : List Transaction → PastView → Table → Type 0
IsIndexedSoFar all past left = (done : List Transaction) × IsIndexOf past done × (done ++ txns_told left ≡ all)

pub indexed-next : (all : List Transaction) (old new : PastView) (left rest : Table) (entry : Stamp × Bor AttemptLine) (stamp : Stamp) (writes : List WriteItem) → left ≡ entry ∷ rest →
    entry.0 ≡ stamp → entry.1.now.writes ≡ writes →
    ((txns : List Transaction) (txn : Transaction) → txn.stamp ≡ stamp → txn.writes ≡ writes → IsIndexOf old txns → IsIndexOf new (txns ++ txn ∷ [])) →
    IsIndexedSoFar all old left → IsIndexedSoFar all new rest
indexed-next all old new left rest entry stamp writes is own wrote push h = (
  h.0 ++ told_at entry ∷ [],
  push h.0 (told_at entry) own wrote h.1,
  append_assoc h.0 (told_at entry ∷ []) (txns_told rest) ∙ ap (λ (ts : Table). h.0 ++ txns_told ts) (sym is) ∙ h.2,
)

pub indexed-all : (commits : List Transaction) (past : PastView) (left : Table) → HaveDistinctStamps commits → left ≡ [] → IsIndexedSoFar (in_stamp_order commits) past left → IsPastOf past commits
indexed-all commits past left distinct none h = record {
  distinct = distinct;
  index = subst (IsIndexOf past) (sym (append-nil h.0) ∙ ap (λ (ts : Table). h.0 ++ txns_told ts) (sym none) ∙ h.2) h.1;
}

-- the index of the lines of a run is that of its commits
pub past-of_run : (run : History) (lines : List AttemptLine) (past : PastView) → lines ≡ outcomes_of run → in_stamp_order (commits_in (outcomes_of run)) ≡ in_stamp_order (commits run) →
    HaveDistinctStamps (commits run) → IsPastOf past (commits_in lines) → IsPastOf past (commits run)
past-of_run run lines past is listed distinct h = record {
  distinct = distinct;
  index = subst (IsIndexOf past) (ap (λ (ls : List AttemptLine). in_stamp_order (commits_in ls)) is ∙ listed) h.index;
}
