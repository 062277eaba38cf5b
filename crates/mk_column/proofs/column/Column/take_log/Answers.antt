use Rattle.std.proofs.Common.{◌≡◌, ap, ◌∙◌, [], Vec, Global}
use Rattle.mk_column.specs.contracts.column.Column.{the_view}
use Rattle.mk_words.specs.declared.Step.{Step}
use Rattle.mk_column.specs.ColumnByCode.{ColumnView}
use Rattle.mk_column.proofs.GrownLaws.{log-grown}
use Rattle.mk_column.proofs.column.Column.take_log.Goals as goal

pub returns-clause-grown : goal.returns-clause-grown
returns-clause-grown c =
    let emptied : c.replace.new.dest.items ≡ [] = ap (λ (v : Vec Step Global). v.items) c.replace.ensures.after ∙ c.new-empty.ensures.items in
    log-grown c.args.self.now _
    ((λ i. record (the_view c.self.inside) { log = emptied i }) ∙ ap (λ (column : ColumnView). record column { log = [] }) c.self.view_is)
