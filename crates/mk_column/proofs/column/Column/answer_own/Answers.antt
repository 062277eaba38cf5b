use Rattle.std.proofs.Common.{◌≡◌, true, sym, ap, ◌∙◌}
use Rattle.mk_model.specs.ColumnState.{ColumnState, attempt_of}
use Rattle.mk_model.specs.ColumnState.Way.{ByTelling}
use Rattle.mk_model.specs.Answers.{listens}
use Rattle.mk_column.specs.StepsByCode.{taught_in, heard_taken, counts}
use Rattle.mk_column.proofs.HearLaws.{told-own, counted-own, ok-then}
use Rattle.mk_column.proofs.column.Column.answer_own.Goals as goal

pub returns-in-Told-clause-ok : goal.returns-in-Told-clause-ok
returns-in-Told-clause-ok c =
    let now = c.args.self.now in
    let msg = c.args.msg.now in
    let hears : listens (attempt_of now.state msg.id) ≡ true = sym c.listens.ensures ∙ c.if-not-listens.false in
    ok-then c.teach_where.result (c.teach_where.new.self ≡ record now { state = taught_in msg.id ByTelling c.in-Told.told.last now.state })
    (c.teach_where.new.self ≡ record now { state = heard_taken now.setting msg now.state })
    (λ e. e ∙ ap (λ (state : ColumnState). record now { state = state }) (told-own now.setting now.state msg c.requires.view hears c.in-Told.told c.in-Told.is)) c.teach_where.ensures.ok

pub returns-in-Voted-clause-ok : goal.returns-in-Voted-clause-ok
returns-in-Voted-clause-ok c =
    let now = c.args.self.now in
    let msg = c.args.msg.now in
    let hears : listens (attempt_of now.state msg.id) ≡ true = sym c.listens.ensures ∙ c.if-not-listens.false in
    c.count.ensures
    ∙ ap (λ (state : ColumnState). record now { state = state }) (counted-own now.setting now.state msg c.requires.view hears c.requires.goes (ap counts c.in-Voted.is))

pub returns-in-Accepted-clause-ok : goal.returns-in-Accepted-clause-ok
returns-in-Accepted-clause-ok c =
    let now = c.args.self.now in
    let msg = c.args.msg.now in
    let hears : listens (attempt_of now.state msg.id) ≡ true = sym c.listens.ensures ∙ c.if-not-listens.false in
    c.count-in-Accepted.ensures
    ∙ ap (λ (state : ColumnState). record now { state = state }) (counted-own now.setting now.state msg c.requires.view hears c.requires.goes (ap counts c.in-Accepted.is))
