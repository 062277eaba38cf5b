use Rattle.std.proofs.Common.{◌≡◌, ◌∙◌, ◌*◌, length, sym, subst, arith}
use Rattle.std.specs.Vec.Iter.{into_iter_items}
use Rattle.mk_workers.specs.ByKey.{states_of, keys_of}
use Rattle.mk_workers.specs.Making.{HasMade}
use Rattle.mk_workers.proofs.Makings.{drop_first, made_all, made_none, made_row, row_at}
use Rattle.mk_workers.proofs.locks.make_locks.Goals as goal

pub loop-row-init : goal.loop-row-init
loop-row-init c =
    let gives = c.into_iter-row-iterator.ensures.into_iter_gives in
    record {
      counted = omega arith;
      left = sym gives.0;
      made = made_none (keys_of c.args.cells.items) c.args.columns (states_of c.args.cells.items) record { locks = c.new.result; rows = c.new-2.result } c.new.ensures.items c.new-2.ensures.items;
    }

pub add_replica-requires-clause-few : goal.add_replica-requires-clause-few
add_replica-requires-clause-few c =
    let was = c.loop-row.invariant in
    let step = c.in-Some.ensures.steps in
    let there = row_at (keys_of c.args.cells.items) c.loop-row.replica c.args.cells.items c.in-Some.row (into_iter_items c.next.new.self) c.requires.by_key.each (was.left ∙ step.0) in
    let few = c.requires.few.1 in
    let long = there.1 in omega (arith, few, long)

pub loop-row-preserved : goal.loop-row-preserved
loop-row-preserved c =
    let was = c.loop-row.invariant in
    let step = c.in-Some.ensures.steps in
    let cells = c.args.cells.items in
    let keys = keys_of cells in
    let there = row_at keys c.loop-row.replica cells c.in-Some.row (into_iter_items c.next.new.self) c.requires.by_key.each (was.left ∙ step.0) in
    let counted = was.counted in
    let fewer = step.1 in
    record {
      counted = omega (arith, counted, fewer);
      left = (drop_first c.loop-row.replica cells c.in-Some.row (into_iter_items c.next.new.self) c.in-Some.row (was.left ∙ step.0)).1;
      made = made_row keys c.args.columns (states_of cells) c.loop-row.replica (length c.in-Some.row.items) c.loop-row.made c.add_replica.new.made there.1
          (c.in_ok-add_replica.ensures (states_of cells) there.0) was.made;
    }

pub returns : goal.returns
returns c =
    let was = c.loop-row.invariant in
    let cells = c.args.cells.items in
    let keys = keys_of cells in
    let counted = was.counted in
    let none = c.in-None.ensures.steps.0 in
    let all_of : c.loop-row.replica ≡ length cells = omega (arith, counted, none) in
    let whole : HasMade (length cells * keys) keys c.args.columns (states_of cells) c.loop-row.made =
    subst (λ n. HasMade (n * keys) keys c.args.columns (states_of cells) c.loop-row.made) all_of was.made in
    let both = made_all (length cells) keys c.args.columns (states_of cells) c.loop-row.made whole in
    record { locks = both.0; seated = both.1.0; opened = both.1.1; rows = whole.rows }
