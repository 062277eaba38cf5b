use Rattle.std.proofs.Common.{take}
use Rattle.std.specs.Global.{Vec}
use Rattle.mk_words.specs.Cells.{CellView}
use Rattle.mk_words.specs.declared.JournalEntry.{JournalEntry}
use Rattle.mk_workers.specs.Closing.{HasNoEntries}
use Rattle.mk_workers.specs.Pairs.{Pairs}
use Rattle.mk_workers.proofs.round.no_entries.Given as goal

abbrev pub invariant-loop-row : goal.invariant-loop-row
invariant-loop-row l = record {
  empty : Pairs (λ _ (row : Vec CellView) (listed : Vec (Vec JournalEntry)). HasNoEntries row.items listed) (take l.row-index l.cells) l.replicas.items;
}
