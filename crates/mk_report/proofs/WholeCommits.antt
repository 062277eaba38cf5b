-- A line of a legal run that says commit has what a transaction has, so that nothing but memory can be wanting to copy it.
use Rattle.std.proofs.Common.{◌≡◌, ◌∙◌, ◌⊎◌, ◌<◌, ◌≤◌, ◌==◌, ℕ, zero, suc, Bool, true, false, cond, not, refl, sym, ap, subst, arith, inl, inr, ◌&&◌, List, [], ◌∷◌, ◌++◌, length, Some, None, nat_lt, if◌then◌else◌}
use Rattle.std.specs.Prelude.{find, option_map, slice_index_or}
use Rattle.std.specs.List.{list_any}
use Rattle.std.proofs.lemmas.Bool.{false≢true, and_parts, not-true}
use Rattle.std.proofs.lemmas.Bool.Decides.{nat_tests}
use Rattle.std.proofs.lemmas.Option.{none-some}
use Rattle.mk_lists.specs.Among.{Among, Each, Each-among}
use Rattle.mk_txn.specs.declared.Stamp.{Stamp}
use Rattle.mk_txn.specs.declared.TxnId.{TxnId}
use Rattle.mk_txn.specs.declared.ReadItem.{ReadItem}
use Rattle.mk_txn.specs.declared.WriteItem.{WriteItem}
use Rattle.mk_txn.specs.declared.faults.TxnError.{TxnError}
use Rattle.mk_txn.specs.declared.faults.TxnError.TheVariants.{NoMemory}
use Rattle.mk_txn.specs.Stamps.{is_before}
use Rattle.mk_txn.specs.Transactions.{Transaction, IsTransaction, are_distinct, is_above_reads, read_keys, write_keys}
use Rattle.mk_txn.specs.TxnFaults.{repeated_key, key_not_above, txn_fault}
use Rattle.mk_history.specs.Histories.{History}
use Rattle.mk_history.specs.Legality.{IsLegal}
use Rattle.mk_history.specs.Shape.{HasShape}
use Rattle.mk_history.specs.Wholes.{last_state}
use Rattle.mk_run_laws.specs.Ends.{last_moment}
use Rattle.mk_run_laws.specs.Joins.{EndsJoin}
use Rattle.mk_run_laws.specs.Lifts.{MomentsOfRounds, ItemsInRuns}
use Rattle.mk_run_laws.specs.RunLaws.{IdsInRuns}
use Rattle.mk_run_laws.proofs.LastMoments.{last_is_moment}
use Rattle.mk_run.specs.declared.line.AttemptLine.{AttemptLine}
use Rattle.mk_run.specs.Attempts.{is_committed, first_in_run, outcomes_of}
use Rattle.mk_report.specs.Commits.{told_txn, commit_in, commits_in}
use Rattle.mk_report.proofs.DistinctCommits.{before, below-columns}
use Rattle.mk_report.proofs.SameCommits.{told_as, clients-tell}

-- ---- a transaction has no fault

none-repeated : (keys : List ℕ) → are_distinct keys ≡ true → repeated_key keys ≡ None
none-repeated [] e = refl
none-repeated (key ∷ keys) e =
    let parts = and_parts (not (list_any (λ later. later == key) keys)) (are_distinct keys) e in
    ap (λ b. cond b (Some key) (repeated_key keys)) (not-true _ parts.0) ∙ none-repeated keys parts.1

none-late : (stamp : Stamp) (reads : List ReadItem) → is_above_reads stamp reads ≡ true → key_not_above stamp reads ≡ None
none-late stamp [] e = refl
none-late stamp (item ∷ items) e = by_test (is_before item.version stamp) e (none-late stamp items)
  where
    by_test : (b : Bool) → (b && is_above_reads stamp items) ≡ true → (is_above_reads stamp items ≡ true → key_not_above stamp items ≡ None)
        → option_map (λ (i : ReadItem). i.key) (cond (not b) (Some item) (find (λ (i : ReadItem). not (is_before i.version stamp)) items)) ≡ None
    by_test true k ih = ih k
    by_test false k ih = absurd (false≢true k)

not_above : (n : ℕ) → n ≤ 16 → nat_lt 16 n ≡ false
not_above n h = grind (arith, nat_tests, h)

no_fault : (txn : Transaction) → IsTransaction txn → txn_fault txn.stamp txn.reads txn.writes ≡ None
no_fault txn whole =
    let reads_few = not_above (length txn.reads) whole.few_reads in
    let writes_few = not_above (length txn.writes) whole.few_writes in
    let reads_once = none-repeated (read_keys txn.reads) whole.distinct_reads in
    let writes_once = none-repeated (write_keys txn.writes) whole.distinct_writes in
    let no_late = none-late txn.stamp txn.reads whole.above in
    simp (reads_few, writes_few, reads_once, writes_once, no_late)

-- so that only memory can be wanting
pub not_faulty : (fault : TxnError) (id : TxnId) (stamp : Stamp) (reads : List ReadItem) (writes : List WriteItem) →
    IsTransaction (record { id = id; stamp = stamp; reads = reads; writes = writes }) →
    (fault ≡ NoMemory) ⊎ (txn_fault stamp reads writes ≡ Some fault) → fault ≡ NoMemory
not_faulty fault id stamp reads writes whole (inl e) = e
not_faulty fault id stamp reads writes whole (inr e) =
    absurd (none-some fault (sym (no_fault (record { id = id; stamp = stamp; reads = reads; writes = writes }) whole) ∙ e))

-- the same reads and writes under other names
pub fitting : (id : TxnId) (stamp : Stamp) (reads seen : List ReadItem) (writes also : List WriteItem) → reads ≡ seen → writes ≡ also →
    IsTransaction (record { id = id; stamp = stamp; reads = seen; writes = also }) → IsTransaction (record { id = id; stamp = stamp; reads = reads; writes = writes })
fitting id stamp reads seen writes also r w whole =
    subst (λ (xs : List ReadItem). IsTransaction (record { id = id; stamp = stamp; reads = xs; writes = writes })) (sym r)
    (subst (λ (ys : List WriteItem). IsTransaction (record { id = id; stamp = stamp; reads = seen; writes = ys })) (sym w) whole)

-- ---- one line of many

each-part : {X : Type 0} (P : X → Type 0) (xs ys : List X) → Each P (xs ++ ys) → Each P xs × Each P ys
each-part P [] ys h = (tt, h)
each-part P (x ∷ xs) ys h = let more = each-part P xs ys h.1 in ((h.0, more.0), more.1)

pub told_at : (lines : List AttemptLine) (place : ℕ) (d : AttemptLine) → Each IsTransaction (commits_in lines) → place < length lines →
    Each IsTransaction (commit_in (slice_index_or lines place d))
told_at [] place d h l = absurd (omega (arith, l))
told_at (line ∷ lines) zero d h l = (each-part IsTransaction (commit_in line) (commits_in lines) h).0
told_at (line ∷ lines) (suc place) d h l = told_at lines place d (each-part IsTransaction (commit_in line) (commits_in lines) h).1 (omega (arith, l))

pub told_whole : (line : AttemptLine) (stamp : Stamp) → Each IsTransaction (commit_in line) → line.stamp ≡ Some stamp → is_committed line.state ≡ true →
    IsTransaction (record { id = line.id; stamp = stamp; reads = line.reads; writes = line.writes })
told_whole line stamp h is says =
    let told : commit_in line ≡ record { id = line.id; stamp = stamp; reads = line.reads; writes = line.writes } ∷ [] =
    ap (λ (b : Bool). if b then told_txn line line.stamp else []) says ∙ ap (told_txn line) is in
    (subst (Each IsTransaction) told h).0

-- ---- the lines of a legal run

each-from : {X : Type 0} (P : X → Type 0) (xs : List X) → ((x : X) → Among x xs → P x) → Each P xs
each-from P [] h = tt
each-from P (x ∷ xs) h = (h x (inl refl), each-from P xs (λ y m. h y (inr m)))

told_is : (id : TxnId) (txn : Transaction) → IsTransaction txn → IsTransaction (told_as id txn)
told_is id txn whole =
    record {
      few_reads = whole.few_reads;
      few_writes = whole.few_writes;
      distinct_reads = whole.distinct_reads;
      distinct_writes = whole.distinct_writes;
      above = whole.above;
    }

module _ (items : ItemsInRuns) (ids : IdsInRuns) (ends : EndsJoin) (moments : MomentsOfRounds) (run : History) (shape : HasShape run) (legal : IsLegal run) where
  member : (t : Transaction) → Among t (commits_in (outcomes_of run)) → IsTransaction t
  member t m =
      let g = clients-tell run.faults (first_in_run run) (last_state run).columns 1 run.client_columns t m in
      let c = g.0 in
      let few = shape.columns in
      let lt = Each-among (λ c. c < run.columns) c run.client_columns (below-columns run.columns run.client_columns (omega (arith, few))) g.1 in
      let k = g.2 in
      let b = before ids ends moments run shape legal c lt k.id k.attempt k.found in
      let fit = (items run legal c lt (last_moment run c) (last_is_moment moments run c)).attempts k.id b.0 b.1 in
      let whole = (fit.txn k.txn (b.2 ∙ k.stamped)).is_transaction in
      subst IsTransaction k.is (told_is k.attempt.id k.txn whole)

  pub commits-whole : Each IsTransaction (commits_in (outcomes_of run))
  commits-whole = each-from IsTransaction (commits_in (outcomes_of run)) member
