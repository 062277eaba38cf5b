use Rattle.std.proofs.Common.{◌≡◌, ◌+◌, ◌*◌, List, [], length, map, drop, slice_index_or}
use Rattle.std.specs.Vec.Iter.{into_iter_items, into_iter_len}
use Rattle.mk_words.specs.Cells.{CellState, CellView}
use Rattle.mk_workers.specs.ByKey.{states_in}
use Rattle.mk_workers.specs.Making.{HasMade}
use Rattle.mk_workers.proofs.locks.add_replica.Given as goal

abbrev pub invariant-loop-cell : goal.invariant-loop-cell
invariant-loop-cell l =
    let rest = into_iter_items l.cell-iterator in
    record {
      counted : l.key + into_iter_len l.cell-iterator ≡ length l.fn.cells.items;
      left : drop l.key (states_in l.fn.cells) ≡ map (λ (cell : CellView). cell.state) rest;
      made : (all : List (List CellState)) → slice_index_or all l.replica [] ≡ states_in l.fn.cells →
          HasMade (l.replica * length l.fn.cells.items) (length l.fn.cells.items) l.columns all l.fn.made →
          HasMade (l.replica * length l.fn.cells.items + l.key) (length l.fn.cells.items) l.columns all l.made;
    }
