use Rattle.std.proofs.Common.{◌≡◌, ◌∙◌, ℕ, ◌+◌, ◌*◌, List, length, map, slice_index_or, sym, ap, subst, arith}
use Rattle.std.specs.Vec.Iter.{into_iter_items}
use Rattle.mk_words.specs.Cells.{CellState, CellView, first_cell}
use Rattle.mk_workers.specs.ByKey.{states_in}
use Rattle.mk_workers.specs.Making.{HasMade}
use Rattle.mk_workers.proofs.Makings.{drop_first, made_more}
use Rattle.mk_workers.proofs.locks.add_replica.Goals as goal

plus_zero : (k : ℕ) → k ≡ k + 0
plus_zero k = omega arith

pub loop-cell-init : goal.loop-cell-init
loop-cell-init c =
    let gives = c.into_iter-cell-iterator.ensures.into_iter_gives in
    record {
      counted = omega arith;
      left = ap (map (λ (cell : CellView). cell.state)) (sym gives.0);
      made = λ all row has. subst (λ k. HasMade k (length c.args.cells.items) c.args.columns all c.args.made.now) (plus_zero (c.args.replica * length c.args.cells.items)) has;
    }

pub loop-cell-preserved : goal.loop-cell-preserved
loop-cell-preserved c =
    let was = c.loop-cell.invariant in
    let step = c.in-Some.ensures.steps in
    let n = length c.args.cells.items in
    let counted = was.counted in
    let fewer = step.1 in
    let first = drop_first c.loop-cell.key (states_in c.args.cells) c.in-Some.cell.state (map (λ (cell : CellView). cell.state) (into_iter_items c.next.new.self)) first_cell
    (was.left ∙ ap (map (λ (cell : CellView). cell.state)) step.0) in
    record {
      counted = omega (arith, counted, fewer);
      left = first.1;
      made = λ all row has.
          made_more n c.args.columns all c.args.replica c.loop-cell.key c.in-Some.cell.state c.loop-cell.made c.add_lock.new.made (was.made all row has) c.in_ok-add_lock.ensures
          (omega (arith, counted, fewer)) (first.0 ∙ ap (λ (states : List CellState). slice_index_or states c.loop-cell.key first_cell) (sym row));
    }

pub returns : goal.returns
returns c =
    let was = c.loop-cell.invariant in
    let n = length c.args.cells.items in
    let counted = was.counted in
    let none = c.in-None.ensures.steps.0 in
    let all_of : c.loop-cell.key ≡ n = omega (arith, counted, none) in
    λ all row has. subst (λ k. HasMade (c.args.replica * n + k) n c.args.columns all c.loop-cell.made) all_of (was.made all row has)
