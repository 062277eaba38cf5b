use Rattle.std.proofs.Common.{◌≡◌, ◌+◌, ◌*◌, length, drop}
use Rattle.std.specs.Vec.Iter.{into_iter_items, into_iter_len}
use Rattle.mk_workers.specs.ByKey.{keys_of, states_of}
use Rattle.mk_workers.specs.Making.{HasMade}
use Rattle.mk_workers.proofs.locks.make_locks.Given as goal

abbrev pub invariant-loop-row : goal.invariant-loop-row
invariant-loop-row l =
    let rest = into_iter_items l.row-iterator in
    record {
      counted : l.replica + into_iter_len l.row-iterator ≡ length l.fn.cells.items;
      left : drop l.replica l.fn.cells.items ≡ rest;
      made : HasMade (l.replica * keys_of l.fn.cells.items) (keys_of l.fn.cells.items) l.columns (states_of l.fn.cells.items) l.made;
    }
