-- So the reads of all commits are what the commits below their readers left on one copy.
use Rattle.std.proofs.Common.{◌≡◌, ◌≤◌, true, false, arith, inl, inr, sym, ap, ◌∙◌, List, ◌&&◌}
use Rattle.std.proofs.lemmas.Bool.Decides.{nat_tests}
use Rattle.std.proofs.lemmas.Bool.{false_from_ne_true, or_parts}
use Rattle.mk_lists.specs.Among.{Among}
use Rattle.mk_txn.specs.declared.Stamp.{Stamp}
use Rattle.mk_txn.specs.declared.ReadItem.{ReadItem}
use Rattle.mk_txn.specs.Clashes.{writes_key, is_between, clashes}
use Rattle.mk_txn.specs.LatestWrites.{VersionedValue, first_version, latest_write}
use Rattle.mk_txn.specs.Stamps.{is_before, zero_stamp}
use Rattle.mk_txn.specs.Transactions.{Transaction, write_keys, are_distinct}
use Rattle.mk_model.specs.OneCopy.{HaveDistinctStamps, one_copy, version_in}
use Rattle.mk_model.specs.Explained.{commits_below}
use Rattle.mk_column_laws.specs.Identity.{IsStampedBy}
use Rattle.mk_history.specs.Histories.{History}
use Rattle.mk_history.specs.Learning.{commits}
use Rattle.mk_history.specs.Legality.{IsLegal}
use Rattle.mk_history.specs.Shape.{HasShape}
use Rattle.mk_run_laws.specs.Ends.{last_moment}
use Rattle.mk_safety.specs.Commits.{IsKnownCommit, IsWritten, NoneBetween, CommitsAreExplained}
use Rattle.mk_safety.proofs.CommitLaws.{CommitLaws}
use Rattle.mk_safety.proofs.Committed.{known}
use Rattle.mk_safety.proofs.Distinct.{distinct-filter, distinct_commits}
use Rattle.mk_safety.proofs.Versions.{versions_were_committed}
use Rattle.mk_lists.proofs.Members.{Among-filter, Among-from_filter}
use Rattle.mk_lists.proofs.Tests.{list_all-among, list_any-from_Among}
use Rattle.mk_run_laws.proofs.LastMoments.{last_is_moment}

pub none_between : CommitLaws → NoneBetween
none_between laws run shape legal reader writer m n =
    let r = known laws run legal reader m in
    let w = known laws run legal writer n in
    (or_parts (clashes reader writer) (clashes writer reader) (laws.fit run shape legal r.column w.column r.in_run w.in_run reader.id writer.id r.attempt w.attempt reader writer r.found w.found r.stamped w.stamped r.rests w.rests)).0

-- a commit that writes what was read, between the version and the reader, clashes with it
between : (reader writer : Transaction) (item : ReadItem) → Among item reader.reads → writes_key item.key writer ≡ true → is_before item.version writer.stamp ≡ true →
    is_before writer.stamp reader.stamp ≡ true → clashes reader writer ≡ true
between reader writer item m writes low high =
    list_any-from_Among (λ (i : ReadItem). writes_key i.key writer && is_between i.version writer.stamp reader.stamp) reader.reads item m
    (λ i. writes i && (low i && high i))

module _ (laws : CommitLaws) (run : History) (shape : HasShape run) (legal : IsLegal run) where
  own_stamp : (txn : Transaction) → (k : IsKnownCommit run txn) → IsStampedBy (last_moment run k.column).column.clients txn.id txn
  own_stamp txn k =
      (laws.identity run legal k.column k.in_run (last_moment run k.column) (last_is_moment laws.below.moments run k.column)).stamps txn.id k.attempt txn k.found k.stamped

  above_zero : (txn : Transaction) → Among txn (commits run) → is_before zero_stamp txn.stamp ≡ true
  above_zero txn m = let k = known laws run legal txn m in later txn.stamp (own_stamp txn k).from_one
    where
      later : (s : Stamp) → 1 ≤ s.time → is_before zero_stamp s ≡ true
      later s up = grind (arith, nat_tests, up)

  -- each writes different keys
  distinct_writes : (txn : Transaction) → Among txn (commits run) → are_distinct (write_keys txn.writes) ≡ true
  distinct_writes txn m =
      let k = known laws run legal txn m in
      let items = laws.items run legal k.column k.in_run (last_moment run k.column) (last_is_moment laws.below.moments run k.column) in
      ((items.attempts txn.id k.attempt k.found).txn txn k.stamped).is_transaction.distinct_writes

  module _ (txn : Transaction) (m : Among txn (commits run)) (item : ReadItem) (reads : Among item txn.reads) where
    abbrev below : List Transaction
    below = commits_below txn.stamp (commits run)

    is_below : (other : Transaction) → Among other below → Among other (commits run) × (is_before other.stamp txn.stamp ≡ true)
    is_below other a = Among-from_filter (λ (t : Transaction). is_before t.stamp txn.stamp) other (commits run) a

    distinct : HaveDistinctStamps below
    distinct = distinct-filter (λ (t : Transaction). is_before t.stamp txn.stamp) (commits run) (distinct_commits laws run legal)

    no_later : (other : Transaction) → Among other below → writes_key item.key other ≡ true → is_before item.version other.stamp ≡ true → ⊥
    no_later other a writes low =
        let b = is_below other a in
        clash (none_between laws run shape legal txn other m b.0) (between txn other item reads writes low b.1)
      where
        clash : clashes txn other ≡ false → clashes txn other ≡ true → ⊥
        clash none some = absurd (cc (sym none ∙ some))

    -- what the commits below leave
    left : latest_write item.key first_version below ≡ record { version = item.version; value = item.value }
    left = elim (versions_were_committed laws run shape legal txn m item reads) [
      | inl first ↦
          laws.write_none item.key below
          (λ other a. false_from_ne_true (writes_key item.key other)
          (λ writes. no_later other a writes (ap (λ (s : Stamp). is_before s other.stamp) first.0 ∙ above_zero other (is_below other a).0)))
          ∙ (λ i. record { version = sym first.0 i; value = sym first.1 i })
      | inr w ↦ written w
    ]
      where
        written : IsWritten run item → latest_write item.key first_version below ≡ record { version = item.version; value = item.value }
        written w =
            let k = known laws run legal txn m in
            let above : is_before item.version txn.stamp ≡ true = list_all-among (λ (i : ReadItem). is_before i.version txn.stamp) txn.reads item (own_stamp txn k).above_reads reads in
            let early : is_before w.writer.stamp txn.stamp ≡ true = ap (λ (s : Stamp). is_before s txn.stamp) w.version ∙ above in
            laws.write_found item.key below w.writer w.write distinct (distinct_writes w.writer w.committed)
            (Among-filter (λ (t : Transaction). is_before t.stamp txn.stamp) w.writer (commits run) w.committed early) w.writes w.on_key
            (λ other a writes. false_from_ne_true (is_before w.writer.stamp other.stamp)
            (λ low. no_later other a writes (ap (λ (s : Stamp). is_before s other.stamp) (sym w.version) ∙ low)))
            ∙ (λ i. record { version = w.version i; value = w.value i })

    pub explained : version_in (one_copy below) item.key ≡ record { version = item.version; value = item.value }
    explained = laws.copy below item.key distinct ∙ left

pub commits_are_explained : CommitLaws → CommitsAreExplained
commits_are_explained laws run shape legal = record {
  versions = λ txn m item reads. sym (ap (λ (v : VersionedValue). v.version) (explained laws run shape legal txn m item reads));
  values = λ txn m item reads. sym (ap (λ (v : VersionedValue). v.value) (explained laws run shape legal txn m item reads));
}
