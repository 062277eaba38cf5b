use Rattle.std.proofs.Common.{◌≡◌, [], length}
use Rattle.std.specs.Global.{Vec}
use Rattle.mk_lists.specs.Among.{Each}
use Rattle.mk_words.specs.declared.JournalEntry.{JournalEntry}
use Rattle.mk_workers.proofs.round.no_entries_at.Given as goal

abbrev pub invariant-loop-cell : goal.invariant-loop-cell
invariant-loop-cell l = record {
  long : length l.journals.items ≡ l._cell-index;
  empty : Each (λ (journal : Vec JournalEntry). journal.items ≡ []) l.journals.items;
}
