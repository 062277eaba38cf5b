-- Journals that are put together and taken apart.
use Rattle.std.proofs.Common.{◌≡◌, refl, sym, ◌∙◌, List, [], ◌∷◌, ◌++◌, subst}
use Rattle.mk_words.specs.declared.JournalEntry.{JournalEntry}
use Rattle.mk_words.specs.Cells.{CellState, CellFits, cell_after, cell_answer}
use Rattle.mk_words.specs.Journals.{cell_through, EachAnswered, Replays}
use Rattle.mk_words.proofs.CellLaws.{CellFits-after}

pub cell_through-append : (cell : CellState) (xs ys : List JournalEntry) → cell_through cell (xs ++ ys) ≡ cell_through (cell_through cell xs) ys
cell_through-append cell [] ys = refl
cell_through-append cell (x ∷ xs) ys = cell_through-append (cell_after cell x.act) xs ys

-- the later part of a journal is answered from where the first part leads
pub EachAnswered-split : (cell : CellState) (xs ys : List JournalEntry) → EachAnswered cell (xs ++ ys) → EachAnswered (cell_through cell xs) ys
EachAnswered-split cell [] ys h = h
EachAnswered-split cell (x ∷ xs) ys h = EachAnswered-split (cell_after cell x.act) xs ys h.1

pub EachAnswered-first : (cell : CellState) (xs ys : List JournalEntry) → EachAnswered cell (xs ++ ys) → EachAnswered cell xs
EachAnswered-first cell [] ys h = tt
EachAnswered-first cell (x ∷ xs) ys h = (h.0, EachAnswered-first (cell_after cell x.act) xs ys h.1)

pub EachAnswered-append : (cell : CellState) (xs ys : List JournalEntry) → EachAnswered cell xs → EachAnswered (cell_through cell xs) ys →
    EachAnswered cell (xs ++ ys)
EachAnswered-append cell [] ys h k = k
EachAnswered-append cell (x ∷ xs) ys h k = (h.0, EachAnswered-append (cell_after cell x.act) xs ys h.1 k)

-- a journal that replays goes on with one more turn
pub Replays-pushed : (opening cell : CellState) (journal : List JournalEntry) (entry : JournalEntry) →
    Replays opening journal cell → cell_answer cell entry.act ≡ entry.answer → Replays opening (journal ++ entry ∷ []) (cell_after cell entry.act)
Replays-pushed opening cell journal entry r a =
    record {
      answered = EachAnswered-append opening journal (entry ∷ []) r.answered (subst (λ c. cell_answer c entry.act ≡ entry.answer) r.closes a, tt);
      closes = (λ i. cell_after (r.closes i) entry.act) ∙ sym (cell_through-append opening journal (entry ∷ []));
    }
