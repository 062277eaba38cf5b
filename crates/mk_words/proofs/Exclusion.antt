-- Of a read and a write that do not fit together, the later check is let in only after the earlier one was given up.
use Rattle.std.proofs.Common.{◌≡◌, Bool, true, false, refl, arith, List, [], ◌∷◌, not, ◌||◌, Option, Some, None}
use Rattle.std.specs.List.{list_any}
use Rattle.mk_txn.specs.declared.Stamp.{Stamp}
use Rattle.mk_txn.specs.Stamps.{is_before}
use Rattle.mk_txn.proofs.StampOrder.{same_stamp-tells, later_stamp-right, later_stamp-above, is_before-up}
use Rattle.mk_words.specs.declared.Act.{Act}
use Rattle.mk_words.specs.declared.Act.TheVariants.{Get, CheckRead, CheckWrite, CommitRead, CommitWrite, ReleaseRead, ReleaseWrite}
use Rattle.mk_words.specs.declared.Answer.TheVariants.{Okay}
use Rattle.mk_words.specs.declared.JournalEntry.{JournalEntry}
use Rattle.mk_words.specs.Pending.{has_stamp}
use Rattle.mk_words.specs.Cells.{CellState, Refusal, refused_by, cell_after, cell_answer, read_refusal, write_refusal, reader_joined, writer_joined, okay_unless}
use Rattle.mk_words.specs.Acts.{releases_read, releases_write}
use Rattle.mk_words.specs.Journals.{cell_through}
use Rattle.mk_words.specs.Exclusions.{WriteAwaitsReader, ReadAwaitsWriter}
use Rattle.mk_words.proofs.JournalLaws.{EachAnswered-split}
use Rattle.mk_words.proofs.PendingLaws.{has_stamp-joined, has_stamp-joined_kept, has_stamp-without, least_above-none, least_below-none}

-- the cell remembers this reader: it is pending, or was committed
holds_read : Stamp → CellState → Bool
holds_read ts cell = has_stamp ts cell.readers || not (is_before cell.rts ts)

holds_write : Stamp → CellState → Bool
holds_write ts cell = has_stamp ts cell.writers || not (is_before cell.wts ts)

none-from_okay : (r : Option Refusal) → okay_unless r ≡ Okay → r ≡ None
none-from_okay None e = refl
none-from_okay (Some r) e = cc

none-from_refused_by : (reason : _) (o : Option Stamp) → refused_by reason o ≡ None → o ≡ None
none-from_refused_by reason None e = refl
none-from_refused_by reason (Some s) e = cc

holds_read-joined : (cell : CellState) (ts : Stamp) → holds_read ts (reader_joined cell ts None) ≡ true
unfolding holds_read
holds_read-joined cell ts = grind (arith, has_stamp-joined ts cell.readers)

holds_write-joined : (cell : CellState) (ts : Stamp) → holds_write ts (writer_joined cell ts None) ≡ true
unfolding holds_write
holds_write-joined cell ts = grind (arith, has_stamp-joined ts cell.writers)

-- an act that does not release the reader keeps it
holds_read-after : (ts : Stamp) (cell : CellState) (act : Act) → holds_read ts cell ≡ true → releases_read ts act ≡ false →
    holds_read ts (cell_after cell act) ≡ true
unfolding holds_read
holds_read-after ts cell Get h n = h
holds_read-after ts cell (CheckRead t version) h n = grind (arith, has_stamp-joined_kept t ts cell.readers)
holds_read-after ts cell (CheckWrite t) h n = grind arith
holds_read-after ts cell (CommitRead t) h n =
    grind (arith, has_stamp-without t ts cell.readers, same_stamp-tells ts t, later_stamp-right cell.rts t, later_stamp-above cell.rts t ts)
holds_read-after ts cell (CommitWrite t value) h n = grind arith
holds_read-after ts cell (ReleaseRead t) h n = grind (arith, has_stamp-without t ts cell.readers n)
holds_read-after ts cell (ReleaseWrite t) h n = h

holds_write-after : (ts : Stamp) (cell : CellState) (act : Act) → holds_write ts cell ≡ true → releases_write ts act ≡ false →
    holds_write ts (cell_after cell act) ≡ true
unfolding holds_write
holds_write-after ts cell Get h n = h
holds_write-after ts cell (CheckRead t version) h n = grind arith
holds_write-after ts cell (CheckWrite t) h n = grind (arith, has_stamp-joined_kept t ts cell.writers)
holds_write-after ts cell (CommitRead t) h n = h
holds_write-after ts cell (CommitWrite t value) h n =
    grind (arith, has_stamp-without t ts cell.writers, same_stamp-tells ts t, later_stamp-right cell.wts t, later_stamp-above cell.wts t ts)
holds_write-after ts cell (ReleaseRead t) h n = h
holds_write-after ts cell (ReleaseWrite t) h n = grind (arith, has_stamp-without t ts cell.writers n)

released_nothing : (ts : Stamp) (test : Stamp → Act → Bool) (entry : JournalEntry) (journal : List JournalEntry) →
    list_any (λ e. test ts e.act) (entry ∷ journal) ≡ false → (test ts entry.act ≡ false) × (list_any (λ e. test ts e.act) journal ≡ false)
released_nothing ts test entry journal h = grind (arith, h)

-- over a journal
holds_read-through : (ts : Stamp) (cell : CellState) (journal : List JournalEntry) →
    holds_read ts cell ≡ true → list_any (λ e. releases_read ts e.act) journal ≡ false → holds_read ts (cell_through cell journal) ≡ true
holds_read-through ts cell [] h n = h
holds_read-through ts cell (entry ∷ journal) h n =
    let k = released_nothing ts releases_read entry journal n in
    holds_read-through ts (cell_after cell entry.act) journal (holds_read-after ts cell entry.act h k.0) k.1

holds_write-through : (ts : Stamp) (cell : CellState) (journal : List JournalEntry) →
    holds_write ts cell ≡ true → list_any (λ e. releases_write ts e.act) journal ≡ false → holds_write ts (cell_through cell journal) ≡ true
holds_write-through ts cell [] h n = h
holds_write-through ts cell (entry ∷ journal) h n =
    let k = released_nothing ts releases_write entry journal n in
    holds_write-through ts (cell_after cell entry.act) journal (holds_write-after ts cell entry.act h k.0) k.1

-- a write below a reader that the cell remembers is refused
write_refused : (cell : CellState) (ts w : Stamp) → holds_read ts cell ≡ true → is_before w ts ≡ true → cell_answer cell (CheckWrite w) ≡ Okay → ⊥
unfolding holds_read
write_refused cell ts w h b e =
    let none = none-from_okay (write_refusal cell w) e in
    grind (arith, none, none-from_refused_by, least_above-none w ts cell.readers, is_before-up w ts cell.rts)

read_refused : (cell : CellState) (ts version w : Stamp) → holds_write w cell ≡ true → is_before version w ≡ true → is_before w ts ≡ true →
    cell_answer cell (CheckRead ts version) ≡ Okay → ⊥
unfolding holds_write
read_refused cell ts version w h v b e =
    let none = none-from_okay (read_refusal cell ts version) e in
    grind (arith, none, none-from_refused_by, least_below-none ts w cell.writers, is_before-up version w cell.wts)

unless_false : (b : Bool) → (b ≡ false → ⊥) → b ≡ true
unless_false true h = refl
unless_false false h = absurd (h refl)

answered : (cell : CellState) (act : Act) (entry : JournalEntry) → cell_answer cell entry.act ≡ entry.answer → entry.act ≡ act → entry.answer ≡ Okay →
    cell_answer cell act ≡ Okay
answered cell act entry r a o = rw (← a, ← o) r

-- a check that was answered Okay leaves the cell with its stamp
read_holds : (cell : CellState) (ts version : Stamp) (entry : JournalEntry) → cell_answer cell entry.act ≡ entry.answer →
    entry.act ≡ CheckRead ts version → entry.answer ≡ Okay → holds_read ts (cell_after cell entry.act) ≡ true
read_holds cell ts version entry r a o =
    let okay = answered cell (CheckRead ts version) entry r a o in
    rw (a, none-from_okay (read_refusal cell ts version) okay) (holds_read-joined cell ts)

write_holds : (cell : CellState) (w : Stamp) (entry : JournalEntry) → cell_answer cell entry.act ≡ entry.answer →
    entry.act ≡ CheckWrite w → entry.answer ≡ Okay → holds_write w (cell_after cell entry.act) ≡ true
write_holds cell w entry r a o =
    let okay = answered cell (CheckWrite w) entry r a o in
    rw (a, none-from_okay (write_refusal cell w) okay) (holds_write-joined cell w)

pub write_awaits_reader : WriteAwaitsReader
write_awaits_reader cell middle rest read write ts version w r ra ro wa wo b =
    unless_false _ (λ n.
    let later = EachAnswered-split (cell_after cell read.act) middle (write ∷ rest) r.1 in
    let held = holds_read-through ts (cell_after cell read.act) middle (read_holds cell ts version read r.0 ra ro) n in
    write_refused _ ts w held b (answered _ (CheckWrite w) write later.0 wa wo))

pub read_awaits_writer : ReadAwaitsWriter
read_awaits_writer cell middle rest write read ts version w r wa wo ra ro v b =
    unless_false _ (λ n.
    let later = EachAnswered-split (cell_after cell write.act) middle (read ∷ rest) r.1 in
    let held = holds_write-through w (cell_after cell write.act) middle (write_holds cell w write r.0 wa wo) n in
    read_refused _ ts version w held v b (answered _ (CheckRead ts version) read later.0 ra ro))
