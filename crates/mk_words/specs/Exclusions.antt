-- What the two checks of a read and a write that do not fit together exclude.
use Rattle.std.specs.Prelude.{◌≡◌, true, List, ◌∷◌, ◌++◌}
use Rattle.std.specs.List.{list_any}
use Rattle.mk_txn.specs.declared.Stamp.{Stamp}
use Rattle.mk_txn.specs.Stamps.{is_before}
use Rattle.mk_words.specs.declared.Act.TheVariants.{CheckRead, CheckWrite}
use Rattle.mk_words.specs.declared.Answer.TheVariants.{Okay}
use Rattle.mk_words.specs.declared.JournalEntry.{JournalEntry}
use Rattle.mk_words.specs.Acts.{releases_read, releases_write}
use Rattle.mk_words.specs.Cells.{CellState}
use Rattle.mk_words.specs.Journals.{EachAnswered}

-- once a read was let in, a write below the reader's stamp is let in only after the read was given up
abbrev pub WriteAwaitsReader : Type 0
WriteAwaitsReader =
    (cell : CellState) (middle rest : List JournalEntry) (read write : JournalEntry) (ts version w : Stamp) →
    EachAnswered cell (read ∷ (middle ++ (write ∷ rest))) →
    read.act ≡ CheckRead ts version → read.answer ≡ Okay → write.act ≡ CheckWrite w → write.answer ≡ Okay →
    is_before w ts ≡ true → list_any (λ entry. releases_read ts entry.act) middle ≡ true

-- once a write was let in, a read below whose stamp it lies, and above whose version, is let in only after the write was given up
abbrev pub ReadAwaitsWriter : Type 0
ReadAwaitsWriter =
    (cell : CellState) (middle rest : List JournalEntry) (write read : JournalEntry) (ts version w : Stamp) →
    EachAnswered cell (write ∷ (middle ++ (read ∷ rest))) →
    write.act ≡ CheckWrite w → write.answer ≡ Okay → read.act ≡ CheckRead ts version → read.answer ≡ Okay →
    is_before version w ≡ true → is_before w ts ≡ true → list_any (λ entry. releases_write w entry.act) middle ≡ true
