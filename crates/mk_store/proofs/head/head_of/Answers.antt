use Rattle.std.proofs.Common.{◌∙◌, ◌≤◌, ℕ, List, sym, ap, subst, map}
use Rattle.mk_history.specs.Shape.{columns_of}
use Rattle.mk_script.specs.declared.lines.ClientLine.{ClientLine}
use Rattle.mk_store.proofs.NameLaws.{columns-few}
use Rattle.mk_store.proofs.head.head_of.Goals as goal

pub count_columns-requires : goal.count_columns-requires
count_columns-requires c =
    let same = c.as_slice.ensures.value ∙ c.in_ok-columns.ensures ∙ ap (λ (clients : List ClientLine). map (λ (line : ClientLine). line.column) clients) c.as_slice-clients.ensures in
    subst (λ (columns : List ℕ). columns_of columns ≤ 8) (sym same) (columns-few _ c.script.invariant)
