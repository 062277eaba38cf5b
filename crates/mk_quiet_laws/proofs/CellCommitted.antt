-- A commit takes its stamp out of the pending ones, and what follows brings it back only by a check.
use Rattle.std.proofs.Common.{◌≡◌, Bool, true, false, refl, arith, inl, inr, ap, ◌∙◌, List, [], ◌∷◌, ◌++◌, Option, Some, None}
use Rattle.mk_txn.specs.declared.Stamp.{Stamp}
use Rattle.mk_txn.specs.Stamps.{is_before, same_stamp}
use Rattle.mk_txn.proofs.StampOrder.{not_before-through, same_stamp-tells, later_stamp-right}
use Rattle.mk_words.specs.declared.Act.{Act}
use Rattle.mk_words.specs.declared.Act.TheVariants.{Get, CheckRead, CheckWrite, CommitRead, CommitWrite, ReleaseRead, ReleaseWrite}
use Rattle.mk_words.specs.declared.JournalEntry.{JournalEntry}
use Rattle.mk_words.specs.Pending.{has_stamp, joined, without}
use Rattle.mk_words.specs.Cells.{CellState, Refusal, cell_after, reader_joined, writer_joined, read_refusal, write_refusal}
use Rattle.mk_words.specs.Journals.{cell_through}
use Rattle.mk_words.proofs.JournalLaws.{cell_through-append}
use Rattle.mk_basic_laws.specs.CellMemory.{StampsRise}
use Rattle.mk_quiet_laws.specs.CellCommits.{IsUndone, CommittedWriteIsGone, CommittedReadIsGone, CommittedWriteRaises, CommittedReadRaises}

-- ---- pending stamps

joined-adds : (s t : Stamp) (list : List Stamp) → has_stamp t list ≡ false → same_stamp s t ≡ false → has_stamp t (joined s list) ≡ false
joined-adds s t [] h n = grind (arith, n)
joined-adds s t (x ∷ xs) h n = grind (arith, joined-adds s t xs, n, h)

without-drops : (s t : Stamp) (list : List Stamp) → has_stamp t list ≡ false → has_stamp t (without s list) ≡ false
without-drops s t [] h = refl
without-drops s t (x ∷ xs) h = grind (arith, without-drops s t xs, h)

without-itself : (s : Stamp) (list : List Stamp) → has_stamp s (without s list) ≡ false
without-itself s [] = refl
without-itself s (x ∷ xs) = grind (arith, without-itself s xs)

differs : (s t : Stamp) → (s ≡ t → ⊥) → same_stamp s t ≡ false
differs s t n = by (same_stamp s t) refl
  where
    by : (b : Bool) → same_stamp s t ≡ b → b ≡ false
    by true e = absurd (n (same_stamp-tells s t e))
    by false e = refl

-- ---- one act

writer_stays_gone : (cell : CellState) (act : Act) (ts : Stamp) → has_stamp ts cell.writers ≡ false → (act ≡ CheckWrite ts → ⊥) → has_stamp ts (cell_after cell act).writers ≡ false
writer_stays_gone cell Get ts h n = h
writer_stays_gone cell (CheckRead other version) ts h n = by (read_refusal cell other version)
  where
    by : (refusal : Option Refusal) → has_stamp ts (reader_joined cell other refusal).writers ≡ false
    by (Some r) = h
    by None = h
writer_stays_gone cell (CheckWrite other) ts h n = by (write_refusal cell other)
  where
    by : (refusal : Option Refusal) → has_stamp ts (writer_joined cell other refusal).writers ≡ false
    by (Some r) = h
    by None = joined-adds other ts cell.writers h (differs other ts (λ same. n (ap CheckWrite same)))
writer_stays_gone cell (CommitRead other) ts h n = h
writer_stays_gone cell (CommitWrite other value) ts h n = without-drops other ts cell.writers h
writer_stays_gone cell (ReleaseRead other) ts h n = h
writer_stays_gone cell (ReleaseWrite other) ts h n = without-drops other ts cell.writers h

reader_stays_gone : (cell : CellState) (act : Act) (ts : Stamp) → has_stamp ts cell.readers ≡ false → ((version : Stamp) → act ≡ CheckRead ts version → ⊥) → has_stamp ts (cell_after cell act).readers ≡ false
reader_stays_gone cell Get ts h n = h
reader_stays_gone cell (CheckRead other version) ts h n = by (read_refusal cell other version)
  where
    by : (refusal : Option Refusal) → has_stamp ts (reader_joined cell other refusal).readers ≡ false
    by (Some r) = h
    by None = joined-adds other ts cell.readers h (differs other ts (λ same. n version (ap (λ (s : Stamp). CheckRead s version) same)))
reader_stays_gone cell (CheckWrite other) ts h n = by (write_refusal cell other)
  where
    by : (refusal : Option Refusal) → has_stamp ts (writer_joined cell other refusal).readers ≡ false
    by (Some r) = h
    by None = h
reader_stays_gone cell (CommitRead other) ts h n = without-drops other ts cell.readers h
reader_stays_gone cell (CommitWrite other value) ts h n = h
reader_stays_gone cell (ReleaseRead other) ts h n = without-drops other ts cell.readers h
reader_stays_gone cell (ReleaseWrite other) ts h n = h

-- ---- a journal

writer_gone_through : (cell : CellState) (journal : List JournalEntry) (ts : Stamp) → has_stamp ts cell.writers ≡ false → IsUndone (CheckWrite ts) journal → has_stamp ts (cell_through cell journal).writers ≡ false
writer_gone_through cell [] ts h n = h
writer_gone_through cell (entry ∷ journal) ts h n =
    writer_gone_through (cell_after cell entry.act) journal ts (writer_stays_gone cell entry.act ts h (λ is. n entry (inl refl) is)) (λ other a is. n other (inr a) is)

reader_gone_through : (cell : CellState) (journal : List JournalEntry) (ts : Stamp) → has_stamp ts cell.readers ≡ false → ((version : Stamp) → IsUndone (CheckRead ts version) journal) → has_stamp ts (cell_through cell journal).readers ≡ false
reader_gone_through cell [] ts h n = h
reader_gone_through cell (entry ∷ journal) ts h n =
    reader_gone_through (cell_after cell entry.act) journal ts (reader_stays_gone cell entry.act ts h (λ version is. n version entry (inl refl) is)) (λ version other a is. n version other (inr a) is)

-- where the entry between two journals is a commit
module _ (opening : CellState) (before middle : List JournalEntry) (commit : JournalEntry) where
  abbrev there : CellState
  there = cell_through opening before

  past_commit : (act : Act) → commit.act ≡ act → cell_through opening (before ++ commit ∷ middle) ≡ cell_through (cell_after there act) middle
  past_commit act is = cell_through-append opening before (commit ∷ middle) ∙ ap (λ (x : Act). cell_through (cell_after there x) middle) is

pub write_is_gone : CommittedWriteIsGone
write_is_gone opening before middle commit ts value is n =
    let at = there opening before middle commit in
    ap (λ (c : CellState). has_stamp ts c.writers) (past_commit opening before middle commit (CommitWrite ts value) is)
    ∙ writer_gone_through (cell_after at (CommitWrite ts value)) middle ts (without-itself ts at.writers) n

pub read_is_gone : CommittedReadIsGone
read_is_gone opening before middle commit ts is n =
    let at = there opening before middle commit in
    ap (λ (c : CellState). has_stamp ts c.readers) (past_commit opening before middle commit (CommitRead ts) is)
    ∙ reader_gone_through (cell_after at (CommitRead ts)) middle ts (without-itself ts at.readers) n

pub write_raises : StampsRise → CommittedWriteRaises
write_raises rise opening before middle commit ts value is =
    let at = there opening before middle commit in
    let next = cell_after at (CommitWrite ts value) in
    ap (λ (c : CellState). is_before c.wts ts) (past_commit opening before middle commit (CommitWrite ts value) is)
    ∙ not_before-through (cell_through next middle).wts next.wts ts (rise next middle).0 (later_stamp-right at.wts ts)

pub read_raises : StampsRise → CommittedReadRaises
read_raises rise opening before middle commit ts is =
    let at = there opening before middle commit in
    let next = cell_after at (CommitRead ts) in
    ap (λ (c : CellState). is_before c.rts ts) (past_commit opening before middle commit (CommitRead ts) is)
    ∙ not_before-through (cell_through next middle).rts next.rts ts (rise next middle).1 (later_stamp-right at.rts ts)
