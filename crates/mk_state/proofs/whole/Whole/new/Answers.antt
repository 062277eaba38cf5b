use Rattle.std.proofs.Common.{ℕ, refl, ap, ◌∙◌, List, map, replicate}
use Rattle.mk_quorum.specs.Sizes.{members}
use Rattle.mk_words.specs.Cells.{first_cell}
use Rattle.mk_model.specs.ColumnState.{numbers_from}
use Rattle.mk_state.specs.Cells.{states_of}
use Rattle.mk_state.specs.Starting.{first_column}
use Rattle.mk_state.proofs.FirstLaws.{first-at}
use Rattle.mk_state.proofs.whole.Whole.new.Goals as goal

pub returns : goal.returns
returns g c rounds =
    first-at c.args.head.now rounds g.K.Keeping.stands
    (record {
      faults = c.args.head.now.size;
      keys = c.len-keys.result;
      columns = c.in_ok-first_columns.field-0.items;
      cells = map (λ row. states_of row.items) c.in_ok-all_cells.field-0.items;
      epochs = c.in_ok-new.field-0;
    })
    refl c.len-keys.ensures.count
    (c.in_ok-first_columns.ensures
    ∙ ap (λ (numbers : List ℕ). map (first_column c.args.head.now.size numbers c.len-keys.result c.args.head.now.version) (numbers_from 0 c.args.head.now.columns)) c.as_slice.ensures
    ∙ ap (λ keys. map (first_column c.args.head.now.size c.args.head.now.client_columns keys c.args.head.now.version) (numbers_from 0 c.args.head.now.columns)) c.len-keys.ensures.count)
    (c.in_ok-all_cells.ensures
    ∙ ap (λ n. replicate n (replicate c.len-keys.result first_cell)) c.n.ensures
    ∙ ap (λ keys. replicate (members c.args.head.now.size) (replicate keys first_cell)) c.len-keys.ensures.count)
    c.in_ok-new.ensures.size c.in_ok-new.ensures.stands
