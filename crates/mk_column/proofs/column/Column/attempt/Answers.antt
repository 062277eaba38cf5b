use Rattle.std.proofs.Common.{Some, sym, ap, ◌∙◌}
use Rattle.std.specs.Prelude.{option_map, option_copied}
use Rattle.std.specs.Borrow.{Bor}
use Rattle.std.specs.Prelude.{Option}
use Rattle.mk_column.specs.ColumnState.{shown}
use Rattle.mk_column.specs.AttemptsByCode.{BegunView}
use Rattle.mk_column.proofs.column.Column.attempt.Goals as goal

pub returns-in-Some : goal.returns-in-Some
returns-in-Some c =
    ap Some c.shown.ensures
    ∙ ap (option_map shown) (sym (ap (λ (o : Option (Bor BegunView)). option_map (λ (begun : BegunView). begun.state) (option_copied o)) c.in-Some.is) ∙ c.begun.ensures)

pub returns-in-None : goal.returns-in-None
returns-in-None c =
    ap (option_map shown)
    (sym (ap (λ (o : Option (Bor BegunView)). option_map (λ (begun : BegunView). begun.state) (option_copied o)) c.in-None.is) ∙ c.begun.ensures)
